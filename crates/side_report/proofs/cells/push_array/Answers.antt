use Rattle.values.proofs.Steps.{falls}
use Rattle.side_report.proofs.cells.push_array.Goals as goal

pub loop-first-smaller : goal.loop-first-smaller
loop-first-smaller c = falls c.args.array.kind c.loop-first.left.now _ _ c.in-Some.ensures c.after-left.ensures
