-- Whether two values of attributes are the same.
use Rattle.std.specs.Prelude.{Bool, true, false, ◌&&◌, List, [], ◌∷◌, Some, None, Option, ◌==◌}
use Rattle.std.specs.Bool.{beq}
use Rattle.std.specs.Ordering.{int_eq}
use Rattle.std.specs.Str.{bytes_eq}
use Rattle.values.specs.declared.value.Array.{Array}
use Rattle.values.specs.Atoms.{Atom, Datum, flag, whole, double, words, single, several}
use Rattle.values.specs.Kinds.{scalar_number}
use Rattle.values.specs.Format.{elements_in}

abbrev pub same_atom : Atom → Atom → Bool
same_atom (flag x) (flag y) = beq x y
same_atom (flag x) (whole y) = false
same_atom (flag x) (double q y) = false
same_atom (flag x) (words y) = false
same_atom (whole x) (flag y) = false
same_atom (whole x) (whole y) = int_eq x y
same_atom (whole x) (double q y) = false
same_atom (whole x) (words y) = false
same_atom (double p x) (flag y) = false
same_atom (double p x) (whole y) = false
same_atom (double p x) (double q y) = p == q && bytes_eq x y
same_atom (double p x) (words y) = false
same_atom (words x) (flag y) = false
same_atom (words x) (whole y) = false
same_atom (words x) (double q y) = false
same_atom (words x) (words y) = bytes_eq x y

abbrev pub same_atoms : List Atom → List Atom → Bool
same_atoms [] [] = true
same_atoms [] (y ∷ ys) = false
same_atoms (x ∷ xs) [] = false
same_atoms (x ∷ xs) (y ∷ ys) = same_atom x y && same_atoms xs ys

-- arrays have the kind of their elements, also where they have none
abbrev pub same_datum : Datum → Datum → Bool
same_datum (single a) (single b) = same_atom a b
same_datum (single a) (several l ys) = false
same_datum (several k xs) (single b) = false
same_datum (several k xs) (several l ys) = scalar_number k == scalar_number l && same_atoms xs ys

abbrev pub same_value : Option Datum → Option Datum → Bool
same_value None None = true
same_value None (Some e) = false
same_value (Some d) None = false
same_value (Some d) (Some e) = same_datum d e

abbrev pub elements_of : Array → List Atom
elements_of a = elements_in a.kind a.bytes.now
