use Rattle.std.proofs.Common.{rules}
use Rattle.conversion.proofs.OwnLemmas.{env-there, env-put}
use Rattle.conversion.proofs.unfinished.UnfinishedSpan.env.Goals as goal

pub returns-then-has_meta : goal.returns-then-has_meta
returns-then-has_meta g c = search (rules, env-there)

pub returns : goal.returns
returns g c = search (rules, env-put)
