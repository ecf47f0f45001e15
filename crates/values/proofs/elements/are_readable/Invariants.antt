use Rattle.std.proofs.Common.{◌≡◌, length}
use Rattle.values.specs.Format.{elements_in}
use Rattle.values.specs.Shown.{all_readable}
use Rattle.values.proofs.elements.are_readable.Given as goal

abbrev pub invariant-loop-first : goal.invariant-loop-first
invariant-loop-first l = all_readable (elements_in l.kind l.bytes) ≡ all_readable (elements_in l.kind l.left)

abbrev pub decreases-loop-first : goal.decreases-loop-first
decreases-loop-first l = length l.left
