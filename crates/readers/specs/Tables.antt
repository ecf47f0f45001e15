-- Tables of what stands for a text.
use Rattle.std.specs.Prelude.{ℕ, Bool, true, cond, ◌&&◌, List, [], ◌∷◌, map, length, Some, None, Option, nat_le, slice_index_or}
use Rattle.std.specs.Str.{bytes_eq}
use Rattle.readers.specs.declared.tables.Entry.{Entry}

pub record Pair : Type 0 where
  pub from : List ℕ
  pub into : List ℕ

abbrev pub to : List ℕ → List ℕ → Pair
to a b = record { from = a; into = b }

-- what stands for t: of the first row that has it
abbrev pub entry_for : List ℕ → List Pair → Option (List ℕ)
entry_for t [] = None
entry_for t (p ∷ ps) = cond (bytes_eq p.from t) (Some p.into) (entry_for t ps)

-- no text of the table has over w bytes
abbrev pub within : ℕ → List Pair → Bool
within w [] = true
within w (p ∷ ps) = nat_le (length p.into) w && within w ps

-- what the code's table means
abbrev pub pair_of : Entry → Pair
pair_of e = to e.from.now e.to.now

abbrev pub pairs_of : List Entry → List Pair
pairs_of es = map pair_of es

-- what stands in a row
abbrev pub text_at : List Entry → ℕ → List ℕ
text_at es i = slice_index_or (map (λ e. e.to.now) es) i []
