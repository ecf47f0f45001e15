use Rattle.conversion.proofs.LinkRows.{Counted}
use Rattle.conversion.proofs.link_places.len_above.Given as goal

abbrev pub invariant-loop-i : goal.invariant-loop-i
invariant-loop-i l = Counted l.block l.j l.below l.i l.len
