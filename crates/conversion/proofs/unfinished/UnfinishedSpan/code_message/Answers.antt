use Rattle.std.proofs.Common.{rules}
use Rattle.conversion.proofs.MessageLemmas.{code-again, code-joined}
use Rattle.conversion.proofs.unfinished.UnfinishedSpan.code_message.Goals as goal

pub returns-in-Some : goal.returns-in-Some
returns-in-Some c = search (rules, code-joined)

pub returns-in-None : goal.returns-in-None
returns-in-None c = search (rules, code-again)
