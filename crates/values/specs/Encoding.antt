-- The bytes of a value, from the value: the format in its own words. `AcceptedExactly` says that the values which bytes are
-- read as are just those whose encoding they are.
use Rattle.std.specs.Prelude.{◌≡◌, ℕ, ◌^◌, ◌<◌, ◌≤◌, Bool, true, false, List, [], ◌∷◌, ◌++◌, length, Some, FitsSigned}
use Rattle.std.specs.Int.{w64}
use Rattle.std.specs.List.{flat_map}
use Rattle.lent_bytes.specs.Memory.{Bytes}
use Rattle.lent_bytes.specs.Fields.{bytes2, bytes8, ints8}
use Rattle.values.specs.declared.kinds.ScalarKind.{ScalarKind}
use Rattle.values.specs.Atoms.{Atom, Datum, flag, whole, double, words, single, several}
use Rattle.values.specs.Kinds.{kind_number}
use Rattle.values.specs.Format.{atom_kind, datum_kind, value_of}

abbrev pub flag_bytes : Bool → List ℕ
flag_bytes true = 1 ∷ []
flag_bytes false = 0 ∷ []

-- a value by itself
abbrev pub bytes_alone : Atom → List ℕ
bytes_alone (flag v) = flag_bytes v
bytes_alone (whole z) = ints8 z
bytes_alone (double p t) = bytes8 p ++ t
bytes_alone (words t) = t

-- an element of an array: texts have their length before them
abbrev pub bytes_inside : Atom → List ℕ
bytes_inside (flag v) = flag_bytes v
bytes_inside (whole z) = ints8 z
bytes_inside (double p t) = bytes8 p ++ (bytes2 (length t) ++ t)
bytes_inside (words t) = bytes2 (length t) ++ t

abbrev pub encoding : Datum → List ℕ
encoding (single a) = bytes_alone a
encoding (several k xs) = flat_map bytes_inside xs

-- what fits the format: integers and patterns of 64 bits, and a double's text of 1 to 400 bytes
abbrev pub Fitting : Atom → Type 0
Fitting (flag v) = Unit {0}
Fitting (whole z) = FitsSigned w64 z
Fitting (double p t) = (p < 2 ^ 64) × (0 < length t) × (length t ≤ 400)
Fitting (words t) = Unit {0}

-- inside an array a string's length has two bytes
abbrev pub FittingInside : Atom → Type 0
FittingInside (flag v) = Unit {0}
FittingInside (whole z) = FitsSigned w64 z
FittingInside (double p t) = (p < 2 ^ 64) × (0 < length t) × (length t ≤ 400)
FittingInside (words t) = length t < 2 ^ 16

abbrev pub AllInside : ScalarKind → List Atom → Type 0
AllInside k [] = Unit {0}
AllInside k (a ∷ xs) = (atom_kind a ≡ k) × FittingInside a × AllInside k xs

abbrev pub FittingDatum : Datum → Type 0
FittingDatum (single a) = Fitting a
FittingDatum (several k xs) = AllInside k xs

-- these bytes are the value d under the kind number n
pub record Encodes (n : ℕ) (b : List ℕ) (d : Datum) : Type 0 where
  pub kind : kind_number (datum_kind d) ≡ n
  pub fits : FittingDatum d
  pub same : encoding d ≡ b

abbrev pub AcceptedExactly : Type 0
AcceptedExactly = (n : ℕ) (b : List ℕ) (d : Datum) → Bytes b → (value_of n b ≡ Some d → Encodes n b d) × (Encodes n b d → value_of n b ≡ Some d)
