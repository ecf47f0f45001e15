use Rattle.conversion.proofs.LinkLemmas.{Linked}
use Rattle.conversion.proofs.unfinished.UnfinishedSpan.links.Given as goal

abbrev pub invariant-loop-i : goal.invariant-loop-i
invariant-loop-i l = Linked l.fn.self l.self l.below l.i
