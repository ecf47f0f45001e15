use Rattle.conversion.proofs.EventLemmas.{Raised}
use Rattle.conversion.proofs.unfinished.UnfinishedSpan.exceptions.Given as goal

abbrev pub invariant-loop-i : goal.invariant-loop-i
invariant-loop-i l = Raised l.fn.self l.self l.i
