-- The tests of values tell exactly whether they are equal.
use Rattle.std.proofs.Common.{◌≡◌, ℕ, zero, suc, Bool, false, ◌&&◌, List, [], ◌∷◌, ℤ, pos, Some, None, Option, bytes_eq, Decides, sym, refl, ap, ◌∙◌, arith, ◌==◌, unwrap_or, is_some}
use Rattle.std.specs.Cmp.{unsigned_Decides, signed_Decides, booleans_Decides}
use Rattle.std.proofs.lemmas.Bool.{false≢true, true≢false}
use Rattle.std.proofs.lemmas.Bool.Decides.{Decides-and, Decides-like}
use Rattle.std.proofs.lemmas.Slice.Eq.{bytes_eq-Decides}
use Rattle.values.specs.declared.kinds.ScalarKind.{ScalarKind}
use Rattle.values.specs.declared.kinds.ScalarKind.TheVariants.{Bool as OfBool, I64, F64, String}
use Rattle.values.specs.Atoms.{Atom, Datum, flag, whole, double, words, single, several}
use Rattle.values.specs.Kinds.{scalar_number}
use Rattle.conversion_sides.specs.Values.{same_atom, same_atoms, same_datum, same_value}

never : {A : Type 0} (a b : A) (tag : A → ℕ) → (tag a ≡ tag b → ⊥) → Decides false (a ≡ b)
never a b tag h = (λ e. absurd (false≢true e), λ p. absurd (h (ap tag p)))

abbrev atom_tag : Atom → ℕ
atom_tag (flag x) = 0
atom_tag (whole x) = 1
atom_tag (double p x) = 2
atom_tag (words x) = 3

abbrev flag_in : Atom → Bool
flag_in (flag x) = x
flag_in (whole x) = false
flag_in (double p x) = false
flag_in (words x) = false

abbrev whole_in : Atom → ℤ
whole_in (flag x) = pos 0
whole_in (whole x) = x
whole_in (double p x) = pos 0
whole_in (words x) = pos 0

abbrev pattern_in : Atom → ℕ
pattern_in (flag x) = 0
pattern_in (whole x) = 0
pattern_in (double p x) = p
pattern_in (words x) = 0

abbrev words_in : Atom → List ℕ
words_in (flag x) = []
words_in (whole x) = []
words_in (double p x) = x
words_in (words x) = x

pub same_atom-Decides : (a b : Atom) → Decides (same_atom a b) (a ≡ b)
same_atom-Decides (flag x) (flag y) = Decides-like _ (λ p. ap flag p) (λ p. ap flag_in p) (booleans_Decides x y)
same_atom-Decides (flag x) (whole y) = never _ _ atom_tag (λ e. absurd (omega arith))
same_atom-Decides (flag x) (double q y) = never _ _ atom_tag (λ e. absurd (omega arith))
same_atom-Decides (flag x) (words y) = never _ _ atom_tag (λ e. absurd (omega arith))
same_atom-Decides (whole x) (flag y) = never _ _ atom_tag (λ e. absurd (omega arith))
same_atom-Decides (whole x) (whole y) = Decides-like _ (λ p. ap whole p) (λ p. ap whole_in p) (signed_Decides x y)
same_atom-Decides (whole x) (double q y) = never _ _ atom_tag (λ e. absurd (omega arith))
same_atom-Decides (whole x) (words y) = never _ _ atom_tag (λ e. absurd (omega arith))
same_atom-Decides (double p x) (flag y) = never _ _ atom_tag (λ e. absurd (omega arith))
same_atom-Decides (double p x) (whole y) = never _ _ atom_tag (λ e. absurd (omega arith))
same_atom-Decides (double p x) (double q y) =
    Decides-like (p == q && bytes_eq x y) (λ h. λ i. double (h.0 i) (h.1 i)) (λ h. (ap pattern_in h, ap words_in h)) (Decides-and (p == q) (bytes_eq x y) (unsigned_Decides p q) (bytes_eq-Decides x y))
same_atom-Decides (double p x) (words y) = never _ _ atom_tag (λ e. absurd (omega arith))
same_atom-Decides (words x) (flag y) = never _ _ atom_tag (λ e. absurd (omega arith))
same_atom-Decides (words x) (whole y) = never _ _ atom_tag (λ e. absurd (omega arith))
same_atom-Decides (words x) (double q y) = never _ _ atom_tag (λ e. absurd (omega arith))
same_atom-Decides (words x) (words y) = Decides-like _ (λ p. ap words p) (λ p. ap words_in p) (bytes_eq-Decides x y)

abbrev shape : List Atom → ℕ
shape [] = 0
shape (x ∷ xs) = 1

abbrev head : Atom → List Atom → Atom
head d [] = d
head d (x ∷ xs) = x

abbrev tail : List Atom → List Atom
tail [] = []
tail (x ∷ xs) = xs

pub same_atoms-Decides : (xs ys : List Atom) → Decides (same_atoms xs ys) (xs ≡ ys)
same_atoms-Decides [] [] = (λ e. refl, λ p. refl)
same_atoms-Decides [] (y ∷ ys) = never _ _ shape (λ e. absurd (omega arith))
same_atoms-Decides (x ∷ xs) [] = never _ _ shape (λ e. absurd (omega arith))
same_atoms-Decides (x ∷ xs) (y ∷ ys) =
    Decides-like (same_atom x y && same_atoms xs ys) (λ h. λ i. h.0 i ∷ h.1 i) (λ h. (ap (head x) h, ap tail h)) (Decides-and (same_atom x y) (same_atoms xs ys) (same_atom-Decides x y) (same_atoms-Decides xs ys))

-- a kind by its number
abbrev kind_at : ℕ → ScalarKind
kind_at zero = OfBool
kind_at (suc zero) = I64
kind_at (suc (suc zero)) = F64
kind_at (suc (suc (suc n))) = String

kind-back : (k : ScalarKind) → kind_at (scalar_number k) ≡ k
kind-back OfBool = refl
kind-back I64 = refl
kind-back F64 = refl
kind-back String = refl

kinds-Decides : (k l : ScalarKind) → Decides (scalar_number k == scalar_number l) (k ≡ l)
kinds-Decides k l = Decides-like _ (λ p. sym (kind-back k) ∙ ap kind_at p ∙ kind-back l) (λ p. ap scalar_number p) (unsigned_Decides (scalar_number k) (scalar_number l))

abbrev datum_tag : Datum → ℕ
datum_tag (single a) = 0
datum_tag (several k xs) = 1

abbrev single_in : Atom → Datum → Atom
single_in d (single a) = a
single_in d (several k xs) = d

abbrev kind_in : Datum → ScalarKind
kind_in (single a) = OfBool
kind_in (several k xs) = k

abbrev several_in : Datum → List Atom
several_in (single a) = []
several_in (several k xs) = xs

pub same_datum-Decides : (d e : Datum) → Decides (same_datum d e) (d ≡ e)
same_datum-Decides (single a) (single b) = Decides-like _ (λ p. ap single p) (λ p. ap (single_in a) p) (same_atom-Decides a b)
same_datum-Decides (single a) (several l ys) = never _ _ datum_tag (λ e. absurd (omega arith))
same_datum-Decides (several k xs) (single b) = never _ _ datum_tag (λ e. absurd (omega arith))
same_datum-Decides (several k xs) (several l ys) =
    Decides-like (scalar_number k == scalar_number l && same_atoms xs ys) (λ h. λ i. several (h.0 i) (h.1 i)) (λ h. (ap kind_in h, ap several_in h))
    (Decides-and (scalar_number k == scalar_number l) (same_atoms xs ys) (kinds-Decides k l) (same_atoms-Decides xs ys))

pub same_value-Decides : (v w : Option Datum) → Decides (same_value v w) (v ≡ w)
same_value-Decides None None = (λ e. refl, λ p. refl)
same_value-Decides None (Some e) = (λ f. absurd (false≢true f), λ p. absurd (false≢true (ap is_some p)))
same_value-Decides (Some d) None = (λ f. absurd (false≢true f), λ p. absurd (true≢false (ap is_some p)))
same_value-Decides (Some d) (Some e) = Decides-like _ (λ p. ap Some p) (λ p. ap (λ o. unwrap_or o d) p) (same_datum-Decides d e)
