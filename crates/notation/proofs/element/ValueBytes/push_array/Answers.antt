use Rattle.notation.proofs.Remaining.{fewer}
use Rattle.notation.proofs.element.ValueBytes.push_array.Goals as goal

pub loop-left-smaller : goal.loop-left-smaller
loop-left-smaller c = fewer c.loop-left.left c.in_ok-left.left c.in-Some.text c.in-Some.is c.in_ok-left.ensures
