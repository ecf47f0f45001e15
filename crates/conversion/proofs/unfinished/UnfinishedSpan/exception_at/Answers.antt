use Rattle.std.proofs.Common.{rules}
use Rattle.conversion.proofs.EventLemmas.{turn-exception, turn-other}
use Rattle.conversion.proofs.unfinished.UnfinishedSpan.exception_at.Goals as goal

pub returns-then-is_exception : goal.returns-then-is_exception
returns-then-is_exception c = search (rules, turn-exception)

pub returns : goal.returns
returns c = search (rules, turn-other)
