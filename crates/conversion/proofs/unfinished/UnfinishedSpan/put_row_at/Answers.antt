use Rattle.std.proofs.Common.{rules}
use Rattle.conversion.proofs.Turns.{turn-in, turn-out}
use Rattle.conversion.proofs.unfinished.UnfinishedSpan.put_row_at.Goals as goal

pub returns-then-is_in : goal.returns-then-is_in
returns-then-is_in c = search (rules, turn-in)

pub returns : goal.returns
returns c = search (rules, turn-out)
