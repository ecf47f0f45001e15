use Rattle.std.proofs.Common.{rules}
use Rattle.conversion.specs.Spans.{found}
use Rattle.conversion.specs.Steps.{message}
use Rattle.conversion.proofs.MessageLemmas.{message-there, message-said}
use Rattle.conversion.proofs.unfinished.UnfinishedSpan.message.Goals as goal

pub returns-then-has_meta : goal.returns-then-has_meta
unfolding message found
returns-then-has_meta c = search (rules, message-there)

pub returns : goal.returns
unfolding message found
returns c = search (rules, message-said)
