-- The row that an attribute replaces, on the rows as facts.
use Rattle.std.specs.Prelude.{ℕ, ◌+◌, Bool, true, cond, ◌&&◌, List, [], ◌∷◌, Some, None, Option, ◌==◌}
use Rattle.std.specs.Str.{bytes_eq}
use Rattle.blocks.specs.Facts.{RowFact}
use Rattle.drafts.specs.Held.{owning}

-- how many rows there are of the list h
abbrev pub row_is_in : ℕ → RowFact → ℕ
row_is_in h r = cond (r.list == h) 1 0

abbrev pub count : ℕ → List RowFact → ℕ
count h [] = 0
count h (r ∷ rs) = row_is_in h r + count h rs

-- no event among the rows for what belongs to an event, no link for what belongs to a link
abbrev pub ownerless : ℕ → List RowFact → Bool
ownerless l rs = owning l (count 3 rs == 0) (count 5 rs == 0) true

-- the row r, before rs, has this list and key, and nothing from it on begins another owner
abbrev pub hit : ℕ → List ℕ → RowFact → List RowFact → Bool
hit l k r rs = r.list == l && (bytes_eq r.key k && ownerless l (r ∷ rs))

-- the number of the first such row, counted from i
abbrev pub place_from : ℕ → List ℕ → ℕ → List RowFact → Option ℕ
place_from l k i [] = None
place_from l k i (r ∷ rs) = cond (hit l k r rs) (Some i) (place_from l k (i + 1) rs)
