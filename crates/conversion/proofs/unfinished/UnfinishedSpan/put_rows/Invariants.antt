use Rattle.conversion.proofs.Turns.{Turned}
use Rattle.conversion.proofs.unfinished.UnfinishedSpan.put_rows.Given as goal

abbrev pub invariant-loop-i : goal.invariant-loop-i
invariant-loop-i l = Turned l.fn.self l.self l.list l.i
