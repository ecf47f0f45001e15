use Rattle.std.proofs.Common.{◌≡◌}
use Rattle.blocks.specs.Facts.{row_facts}
use Rattle.conversion.specs.RowSteps.{any_own}
use Rattle.conversion.proofs.OwnRows.{OwnFrom}
use Rattle.conversion.proofs.own.has_own.Given as goal

abbrev pub invariant-loop-i : goal.invariant-loop-i
invariant-loop-i l = OwnFrom l.block l.i ≡ any_own (row_facts l.block)
