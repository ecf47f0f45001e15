-- The words that name kinds.
use Rattle.std.specs.Prelude.{◌≡◌, ℕ, cond, List, Some, None, Option, nat_lt}
use Rattle.lent_bytes.specs.Lookup.{index_from}
use Rattle.values.specs.KindNames.{kind_names, name_of_kind}
use Rattle.values.specs.Kinds.{kind_of}
use Rattle.values.specs.declared.kinds.ValueKind.{ValueKind}

-- the kind whose number is the place
abbrev pub kind_at : Option ℕ → Option ValueKind
kind_at None = None
kind_at (Some n) = cond (nat_lt n 256) (kind_of n) None

abbrev pub kind_in : List ℕ → Option ValueKind
kind_in name = kind_at (index_from 0 name kind_names)

-- each kind's name is read as that kind
abbrev pub NamesReadBack : Type 0
NamesReadBack = (k : ValueKind) → kind_in (name_of_kind k) ≡ Some k
