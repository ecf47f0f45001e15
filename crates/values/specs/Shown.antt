-- The texts, the number and the metric of a value.
use Rattle.std.specs.Prelude.{ℕ, zero, suc, Bool, true, false, ◌&&◌, List, [], ◌∷◌, ◌++◌, map, ℤ, pos, negsuc, Some, None, codes, Option, from_bits, to_bits}
use Rattle.std.specs.Float.Ieee.{of_int}
use Rattle.std.specs.Float.{binary64}
use Rattle.std.specs.Fmt.{signed_decimal}
use Rattle.values.specs.Atoms.{Atom, Datum, flag, whole, double, words, single, several}
use Rattle.values.specs.Doubles.{whole_of}
use Rattle.values.specs.Unicode.{is_text}

abbrev pub flag_text : Bool → List ℕ
flag_text true = codes "true"
flag_text false = codes "false"

abbrev pub quoted : Bool → List ℕ → List ℕ
quoted true t = 34 ∷ (t ++ 34 ∷ [])
quoted false t = t

-- a scalar's text: true or false, the shortest decimal, a double's own text, a string, in quotes if asked for
abbrev pub atom_text : Bool → Atom → List ℕ
atom_text quotes (flag b) = flag_text b
atom_text quotes (whole z) = signed_decimal z
atom_text quotes (double p t) = t
atom_text quotes (words t) = quoted quotes t

-- what stands before an element: nothing before the first, a comma before the others
abbrev pub comma : Bool → List ℕ
comma true = []
comma false = 44 ∷ []

-- elements with a comma between two, and the bracket that ends them
abbrev pub listed : Bool → List (List ℕ) → List ℕ
listed first [] = 93 ∷ []
listed first (t ∷ ts) = (comma first ++ t) ++ listed false ts

abbrev pub bracketed : List (List ℕ) → List ℕ
bracketed ts = 91 ∷ listed true ts

-- a value's text, with or without quotes around the strings of an array
abbrev pub datum_text : Bool → Datum → List ℕ
datum_text quotes (single a) = atom_text false a
datum_text quotes (several k xs) = bracketed (map (atom_text quotes) xs)

abbrev pub display : Datum → List ℕ
display d = datum_text true d

abbrev pub dd_string : Datum → List ℕ
dd_string d = datum_text false d

-- `0` and `1` for the numbers zero, of either sign, and one; else the text t
abbrev pub text_by_number : Option ℤ → List ℕ → List ℕ
text_by_number None t = t
text_by_number (Some (pos zero)) t = codes "0"
text_by_number (Some (pos (suc zero))) t = codes "1"
text_by_number (Some (pos (suc (suc n)))) t = t
text_by_number (Some (negsuc n)) t = t

abbrev pub string_repr : Datum → List ℕ
string_repr (single (flag b)) = flag_text b
string_repr (single (whole z)) = signed_decimal z
string_repr (single (double p t)) = text_by_number (whole_of (from_bits binary64 p)) t
string_repr (single (words t)) = t
string_repr (several k xs) = display (several k xs)

-- the whole number that a value is
abbrev pub number_of : Datum → Option ℤ
number_of (single (flag b)) = None
number_of (single (whole z)) = Some z
number_of (single (double p t)) = whole_of (from_bits binary64 p)
number_of (single (words t)) = None
number_of (several k xs) = None

-- the pattern of the double that is nearest to the number, ties to even
abbrev pub metric_of : Datum → Option ℕ
metric_of (single (flag b)) = None
metric_of (single (whole z)) = Some (to_bits binary64 (of_int binary64 z))
metric_of (single (double p t)) = Some p
metric_of (single (words t)) = None
metric_of (several k xs) = None

-- whether every text in it is UTF-8
abbrev pub readable : Atom → Bool
readable (flag b) = true
readable (whole z) = true
readable (double p t) = is_text t
readable (words t) = is_text t

abbrev pub all_readable : List Atom → Bool
all_readable [] = true
all_readable (a ∷ xs) = readable a && all_readable xs

abbrev pub datum_readable : Datum → Bool
datum_readable (single a) = readable a
datum_readable (several k xs) = all_readable xs
