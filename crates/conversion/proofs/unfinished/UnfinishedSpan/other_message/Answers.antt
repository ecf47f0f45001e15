use Rattle.std.proofs.Common.{rules}
use Rattle.conversion.proofs.MessageLemmas.{other-none, other-some}
use Rattle.conversion.proofs.unfinished.UnfinishedSpan.other_message.Goals as goal

pub returns-in-Some : goal.returns-in-Some
returns-in-Some c = search (rules, other-some)

pub returns-in-None : goal.returns-in-None
returns-in-None c = search (rules, other-none)
