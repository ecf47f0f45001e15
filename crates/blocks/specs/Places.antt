-- Where the rows of a list stand, as the code looks for them.
use Rattle.std.specs.Prelude.{◌≡◌, ℕ, ◌+◌, ◌-◌, ◌≤◌, Bool, List, map, filter, ◌==◌}
use Rattle.std.specs.List.{range_with_len}
use Rattle.std.specs.declared.ops.Range.{Range}
use Rattle.blocks.specs.Layout.{rows_in}
use Rattle.blocks.specs.Faults.{list_in}
use Rattle.blocks.specs.Facts.{RowFact, row_fact}
use Rattle.blocks.specs.Projections.{Owned}

abbrev pub is_of : List ℕ → ℕ → ℕ → Bool
is_of m l i = list_in m i == l

-- the numbers of the rows of a list, of n rows from the i-th on
unfoldable pub places_of : List ℕ → ℕ → ℕ → ℕ → List ℕ
places_of m l i n = filter (is_of m l) (range_with_len i n)

-- the rows of a run
unfoldable pub rows_from : List ℕ → ℕ → ℕ → List RowFact
rows_from m i n = map (row_fact m) (range_with_len i n)

abbrev pub all_rows : List ℕ → Range ℕ
all_rows m = record { start = 0; end = rows_in m }

abbrev pub run_rows : List ℕ → Range ℕ → List RowFact
run_rows m r = rows_from m r.start (r.end - r.start)

-- a run that begins behind a row of the list l, and ends where the rows end or above
pub record Behind (m : List ℕ) (l : ℕ) (r : Range ℕ) : Type 0 where
  pub row : ℕ
  pub start : r.start ≡ row + 1
  pub list : list_in m row ≡ l
  pub within : r.end ≤ rows_in m

abbrev pub attributes_of : Owned → List RowFact
attributes_of o = o.attributes
