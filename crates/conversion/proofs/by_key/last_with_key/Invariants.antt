use Rattle.blocks.specs.Lists.{owned_list}
use Rattle.conversion.proofs.UnderLemmas.{Looked}
use Rattle.conversion.proofs.by_key.last_with_key.Given as goal

abbrev pub invariant-loop-i : goal.invariant-loop-i
invariant-loop-i l = Looked l.block (owned_list l.owner) l.key l.fn.run l.i l.last
