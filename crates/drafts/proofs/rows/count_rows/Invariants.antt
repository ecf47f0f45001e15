use Rattle.std.proofs.Common.{◌≡◌, ◌≤◌}
use Rattle.blocks.specs.Lists.{list_number}
use Rattle.blocks.specs.Faults.{above}
use Rattle.drafts.proofs.rows.count_rows.Given as goal

abbrev pub invariant-loop-i : goal.invariant-loop-i
invariant-loop-i l = (l.n ≡ above l.m (list_number l.list) l.i) × (l.n ≤ l.i)
