use Rattle.notation.proofs.Remaining.{size_left}
use Rattle.notation.proofs.element.ValueBytes.push_array.Given as goal

abbrev pub decreases-loop-left : goal.decreases-loop-left
decreases-loop-left l = size_left l.left
