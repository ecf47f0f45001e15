-- A checked value's texts fit.
use Rattle.std.proofs.Common.{◌≡◌, ℕ, zero, suc, ◌≤◌, Bool, true, false, cond, leb, List, [], ◌∷◌, map, length, ℤ, pos, negsuc, Some, None, Option, sym, refl, ap, ◌∙◌, arith, length-append}
use lib.Ieee.{of_bits, binary64}
use Rattle.std.proofs.lemmas.Bool.{leb-true}
use Rattle.values.specs.declared.check.ValueFault.TheVariants.{NotUtf8, TooLong}
use Rattle.lent_bytes.proofs.Clips.{clip-all}
use Rattle.values.specs.Atoms.{Atom, Datum, flag, whole, double, words, single, several}
use Rattle.values.specs.Doubles.{whole_of}
use Rattle.values.specs.Shown.{atom_text, listed, text_by_number, datum_readable, display, dd_string, string_repr}
use Rattle.values.specs.Faults.{datum_fault}
use Rattle.values.specs.Laws.{CheckedIsNeverClipped}

-- what the check leaves when it finds no fault
last_test : (r l : Bool) → cond r (cond l None (Some TooLong)) (Some NotUtf8) ≡ None → l ≡ true
last_test true true h = refl
last_test true false h = let z : ◌≡◌ {A = ℕ} 0 1 = cc in absurd (omega arith)
last_test false l h = let z : ◌≡◌ {A = ℕ} 0 1 = cc in absurd (omega arith)

short : (d : Datum) → datum_fault (Some d) ≡ None → length (display d) ≤ 4096
short d h = leb-true (length (display d)) 4096 (last_test (datum_readable d) (leb (length (display d)) 4096) h)

-- no quotes, no longer text
unquoted : (a : Atom) → length (atom_text false a) ≤ length (atom_text true a)
unquoted (flag b) = omega arith
unquoted (whole z) = omega arith
unquoted (double p t) = omega arith
unquoted (words t) = simp length-append (omega arith)

shorter : (f : Bool) (xs : List Atom) → length (listed f (map (atom_text false) xs)) ≤ length (listed f (map (atom_text true) xs))
shorter f [] = omega arith
shorter f (a ∷ xs) =
    let u = unquoted a in
    let i = shorter false xs in
    simp length-append (omega arith)

dd_short : (d : Datum) → length (dd_string d) ≤ length (display d)
dd_short (single a) = omega arith
dd_short (several k xs) = let s = shorter true xs in omega arith

by_number : (o : Option ℤ) (t : List ℕ) → length t ≤ 4096 → length (text_by_number o t) ≤ 4096
by_number None t h = h
by_number (Some (pos zero)) t h = omega arith
by_number (Some (pos (suc zero))) t h = omega arith
by_number (Some (pos (suc (suc n)))) t h = h
by_number (Some (negsuc n)) t h = h

repr_short : (d : Datum) → length (display d) ≤ 4096 → length (string_repr d) ≤ 4096
repr_short (single (flag b)) h = h
repr_short (single (whole z)) h = h
repr_short (single (double p t)) h = by_number (whole_of (of_bits binary64 p)) t h
repr_short (single (words t)) h = h
repr_short (several k xs) h = h

pub checked_is_never_clipped_lem : CheckedIsNeverClipped
checked_is_never_clipped_lem n b d e h =
    let l = short d (ap datum_fault (sym e) ∙ h) in
    let m = dd_short d in
    (clip-all 4096 (display d) l, clip-all 4096 (string_repr d) (repr_short d l), clip-all 4096 (dd_string d) (omega arith))
