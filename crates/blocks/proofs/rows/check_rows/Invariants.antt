use Rattle.std.proofs.Common.{◌≡◌, ◌-◌}
use Rattle.blocks.specs.First.{first_from}
use Rattle.blocks.specs.Faults.{aboves, row_at_fault}
use Rattle.blocks.proofs.rows.check_rows.Given as goal

abbrev pub invariant-loop-i : goal.invariant-loop-i
invariant-loop-i l = (first_from (row_at_fault l.block) 0 l.rows ≡ first_from (row_at_fault l.block) l.i (l.rows - l.i)) × (l.counts ≡ aboves l.block l.i)
