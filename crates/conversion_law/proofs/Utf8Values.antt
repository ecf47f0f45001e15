-- The texts of a readable value are UTF-8.
use Rattle.std.proofs.Common.{ℕ, zero, suc, Bool, true, false, List, [], ◌∷◌, map, ℤ, pos, negsuc, Some, None, Option, codes, IsUtf8, FitsSigned, refl, arith}
use lib.Ieee.{of_bits, binary64}
use Rattle.std.specs.Fmt.{signed_decimal}
use Rattle.std.specs.Int.{w64}
use Rattle.std.proofs.lemmas.Fmt.{IsAscii-signed}
use Rattle.std.proofs.lemmas.Str.{IsUtf8-append, IsUtf8-nil, IsUtf8-from_ascii}
use Rattle.values.specs.Atoms.{Atom, Datum, flag, whole, double, words, single, several}
use Rattle.values.specs.declared.kinds.ScalarKind.{ScalarKind}
use Rattle.values.specs.Doubles.{whole_of}
use Rattle.values.specs.Encoding.{Fitting, FittingInside, AllInside, FittingDatum}
use Rattle.values.specs.Shown.{flag_text, quoted, atom_text, comma, listed, display, dd_string, text_by_number, string_repr}
use Rattle.blocks.specs.Lawful.{ReadableAtom, ReadableAll, Readable}
use Rattle.conversion_law.proofs.Utf8.{utf8-cons, constant}

flag-utf8 : (b : Bool) → IsUtf8 (flag_text b)
flag-utf8 true = constant (codes "true") refl
flag-utf8 false = constant (codes "false") refl

signed-utf8 : (z : ℤ) → FitsSigned w64 z → IsUtf8 (signed_decimal z)
signed-utf8 z h = IsUtf8-from_ascii (signed_decimal z) (IsAscii-signed z h.sfits)

quoted-utf8 : (q : Bool) (t : List ℕ) → IsUtf8 t → IsUtf8 (quoted q t)
quoted-utf8 true t u = utf8-cons 34 _ (omega arith) (IsUtf8-append t (34 ∷ []) u (constant (34 ∷ []) refl))
quoted-utf8 false t u = u

alone-utf8 : (a : Atom) → Fitting a → ReadableAtom a → IsUtf8 (atom_text false a)
alone-utf8 (flag b) f u = flag-utf8 b
alone-utf8 (whole z) f u = signed-utf8 z f
alone-utf8 (double p t) f u = u
alone-utf8 (words t) f u = u

inside-utf8 : (q : Bool) (a : Atom) → FittingInside a → ReadableAtom a → IsUtf8 (atom_text q a)
inside-utf8 q (flag b) f u = flag-utf8 b
inside-utf8 q (whole z) f u = signed-utf8 z f
inside-utf8 q (double p t) f u = u
inside-utf8 q (words t) f u = quoted-utf8 q t u

comma-utf8 : (first : Bool) → IsUtf8 (comma first)
comma-utf8 true = IsUtf8-nil
comma-utf8 false = constant (44 ∷ []) refl

listed-utf8 : (q first : Bool) (k : ScalarKind) (xs : List Atom) → AllInside k xs → ReadableAll xs → IsUtf8 (listed first (map (atom_text q) xs))
listed-utf8 q first k [] f u = constant (93 ∷ []) refl
listed-utf8 q first k (a ∷ xs) f u =
    IsUtf8-append _ _ (IsUtf8-append _ _ (comma-utf8 first) (inside-utf8 q a f.1 u.0)) (listed-utf8 q false k xs f.2 u.1)

several-utf8 : (q : Bool) (k : ScalarKind) (xs : List Atom) → AllInside k xs → ReadableAll xs → IsUtf8 (91 ∷ listed true (map (atom_text q) xs))
several-utf8 q k xs f u = utf8-cons 91 _ (omega arith) (listed-utf8 q true k xs f u)

pub display-utf8 : (d : Datum) → FittingDatum d → Readable d → IsUtf8 (display d)
display-utf8 (single a) f u = alone-utf8 a f u
display-utf8 (several k xs) f u = several-utf8 true k xs f u

pub plain-utf8 : (d : Datum) → FittingDatum d → Readable d → IsUtf8 (dd_string d)
plain-utf8 (single a) f u = alone-utf8 a f u
plain-utf8 (several k xs) f u = several-utf8 false k xs f u

by-number : (o : Option ℤ) (t : List ℕ) → IsUtf8 t → IsUtf8 (text_by_number o t)
by-number None t u = u
by-number (Some (pos zero)) t u = constant (codes "0") refl
by-number (Some (pos (suc zero))) t u = constant (codes "1") refl
by-number (Some (pos (suc (suc n)))) t u = u
by-number (Some (negsuc n)) t u = u

pub string-utf8 : (d : Datum) → FittingDatum d → Readable d → IsUtf8 (string_repr d)
string-utf8 (single (flag b)) f u = flag-utf8 b
string-utf8 (single (whole z)) f u = signed-utf8 z f
string-utf8 (single (double p t)) f u = by-number (whole_of (of_bits binary64 p)) t u
string-utf8 (single (words t)) f u = u
string-utf8 (several k xs) f u = several-utf8 true k xs f u
