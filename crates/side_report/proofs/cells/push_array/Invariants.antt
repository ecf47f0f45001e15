use Rattle.std.proofs.Common.{length}
use Rattle.side_report.proofs.cells.push_array.Given as goal

abbrev pub decreases-loop-first : goal.decreases-loop-first
decreases-loop-first l = length l.left
