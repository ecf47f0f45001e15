use Rattle.conversion.proofs.OwnLemmas.{version-there, version-put}
use Rattle.conversion.proofs.unfinished.UnfinishedSpan.version.Goals as goal
use Rattle.std.proofs.Common.{rules}

pub returns-then-has_meta : goal.returns-then-has_meta
returns-then-has_meta c = search (rules, version-there)

pub returns : goal.returns
returns c = search (rules, version-put)
