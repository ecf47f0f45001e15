-- Where a text stands in a table of texts.
use Rattle.std.specs.Prelude.{◌≡◌, ℕ, ◌+◌, ◌<◌, Bool, true, cond, not, ◌&&◌, List, [], ◌∷◌, length, Some, None, Option, ◌≢◌, slice_index_or}
use Rattle.std.specs.Str.{bytes_eq}

-- the first place at which k stands in xs, counted from i
abbrev pub index_from : ℕ → List ℕ → List (List ℕ) → Option ℕ
index_from i k [] = None
index_from i k (x ∷ xs) = cond (bytes_eq x k) (Some i) (index_from (i + 1) k xs)

-- k is none of xs
abbrev pub lacks : List ℕ → List (List ℕ) → Bool
lacks k [] = true
lacks k (x ∷ xs) = not (bytes_eq x k) && lacks k xs

-- no text stands twice in the table
abbrev pub distinct : List (List ℕ) → Bool
distinct [] = true
distinct (x ∷ xs) = lacks x xs && distinct xs

-- what a look-up means: it answers the place of the entry with these bytes, and none just where no entry has them
abbrev pub Found : List ℕ → List (List ℕ) → Option ℕ → Type 0
Found k ts None = (j : ℕ) → j < length ts → slice_index_or ts j [] ≢ k
Found k ts (Some i) = (i < length ts) × (slice_index_or ts i [] ≡ k)

-- in a table with no text twice, a look-up answers i exactly where the entry at i has these bytes
abbrev pub LookedUpExactly : List (List ℕ) → Type 0
LookedUpExactly ts =
    (k : List ℕ) → Found k ts (index_from 0 k ts)
    × ((i : ℕ) → i < length ts → slice_index_or ts i [] ≡ k → index_from 0 k ts ≡ Some i)
