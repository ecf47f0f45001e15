use Rattle.std.proofs.Common.{◌≡◌, ◌+◌, length}
use Rattle.values.specs.Format.{elements_in, sizes_of}
use Rattle.values.proofs.elements.fill.Given as goal

-- what the elements take, and what is left beside it
abbrev pub invariant-loop-first : goal.invariant-loop-first
invariant-loop-first l = sizes_of (elements_in l.kind l.bytes) + length l.left ≡ sizes_of (elements_in l.kind l.left) + length l.bytes

abbrev pub decreases-loop-first : goal.decreases-loop-first
decreases-loop-first l = length l.left
