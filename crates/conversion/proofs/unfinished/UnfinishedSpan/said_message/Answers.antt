use Rattle.std.proofs.Common.{rules}
use Rattle.conversion.proofs.MessageLemmas.{said-other, said-put}
use Rattle.conversion.proofs.unfinished.UnfinishedSpan.said_message.Goals as goal

pub returns-then-is_empty : goal.returns-then-is_empty
returns-then-is_empty c = search (rules, said-other)

pub returns : goal.returns
returns c = search (rules, said-put)
