-- The words by which a line says how its value is written.
use Rattle.std.specs.Prelude.{◌≡◌, ℕ, cond, List, Some, codes, Option}
use Rattle.std.specs.Option.{option_map}
use Rattle.std.specs.Str.{bytes_eq}
use Rattle.notation.specs.Kinds.{kind_in}
use Rattle.values.specs.KindNames.{name_of_kind}
use Rattle.values.specs.declared.kinds.ValueKind.{ValueKind}
use Rattle.notation.specs.declared.named.Notation.{Notation}
use Rattle.notation.specs.declared.named.Notation.TheVariants.{Typed, Raw}

abbrev pub notation_of : List ℕ → Option Notation
notation_of name = cond (bytes_eq name (codes "raw")) (Some Raw) (option_map Typed (kind_in name))

-- each kind's name is read as that kind
abbrev pub NamesReadBack : Type 0
NamesReadBack = (k : ValueKind) → notation_of (name_of_kind k) ≡ Some (Typed k)
