-- The words that name kinds.
use Rattle.std.specs.Prelude.{ℕ, List, [], ◌∷◌, codes, slice_index_or}
use Rattle.values.specs.Kinds.{kind_number}
use Rattle.values.specs.declared.kinds.ValueKind.{ValueKind}

-- each at its kind's number
abbrev pub kind_names : List (List ℕ)
kind_names =
    codes "bool" ∷ codes "int" ∷ codes "double" ∷ codes "string" ∷ codes "bools" ∷ codes "ints" ∷ codes "doubles" ∷ codes "strings" ∷ []

abbrev pub name_of_kind : ValueKind → List ℕ
name_of_kind k = slice_index_or kind_names (kind_number k) []
