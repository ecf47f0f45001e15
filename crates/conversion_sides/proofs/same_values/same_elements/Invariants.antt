use Rattle.std.proofs.Common.{◌≡◌, length}
use Rattle.values.specs.Format.{elements_in}
use Rattle.conversion_sides.specs.Values.{same_atoms, elements_of}
use Rattle.conversion_sides.proofs.same_values.same_elements.Given as goal

abbrev pub invariant-loop-x : goal.invariant-loop-x
invariant-loop-x l = same_atoms (elements_in l.of_a l.left) (elements_in l.of_b l.right) ≡ same_atoms (elements_of l.a) (elements_of l.b)

abbrev pub decreases-loop-x : goal.decreases-loop-x
decreases-loop-x l = length l.left
