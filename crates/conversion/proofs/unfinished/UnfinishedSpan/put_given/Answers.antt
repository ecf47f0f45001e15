use Rattle.std.proofs.Common.{rules}
use Rattle.conversion.proofs.AttributeLemmas.{texts}
use Rattle.conversion.proofs.unfinished.UnfinishedSpan.put_given.Goals as goal

pub returns-then-says_nothing : goal.returns-then-says_nothing
returns-then-says_nothing c = search (rules, texts)

pub returns : goal.returns
returns c = search (rules, texts)
