use Rattle.std.proofs.Common.{rules}
use Rattle.conversion.proofs.MessageLemmas.{status-error, status-none}
use Rattle.conversion.proofs.unfinished.UnfinishedSpan.by_status.Goals as goal

pub returns-then-has_error : goal.returns-then-has_error
returns-then-has_error c = search (rules, status-error)

pub returns : goal.returns
returns c = search (rules, status-none)
