use Rattle.std.proofs.Common.{◌≡◌, ◌≤◌, drop}
use Rattle.blocks.specs.Lists.{list_number}
use Rattle.blocks.specs.Layout.{rows_in}
use Rattle.blocks.specs.Facts.{row_facts}
use Rattle.drafts.specs.Search.{count}
use Rattle.drafts.proofs.rows.behind_last.Given as goal

abbrev pub invariant-loop-i : goal.invariant-loop-i
invariant-loop-i l = (l.i ≤ rows_in l.m) × (count (list_number l.list) (drop l.i (row_facts l.m)) ≡ 0)
