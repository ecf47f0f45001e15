-- What the rows of a lawful block say: each key is UTF-8, and each attribute has a value that fits.
use Rattle.std.proofs.Common.{◌≡◌, ℕ, zero, suc, ◌+◌, ◌<◌, ◌≤◌, Bool, true, false, cond, List, [], ◌∷◌, length, drop, is_some, Some, None, Option, IsUtf8, refl, ap, ◌∙◌, sym, arith, length-take}
use Rattle.std.specs.List.{AllByRecursion}
use Rattle.std.specs.Option.{option_map}
use Rattle.std.proofs.lemmas.Bool.{both_ways, and_from, le-leb, ne_eqb}
use Rattle.lent_bytes.specs.Memory.{portion}
use Rattle.values.specs.declared.kinds.ValueKind.{ValueKind}
use Rattle.values.specs.Atoms.{Atom, Datum, flag, whole, double, words, single, several}
use Rattle.values.specs.Kinds.{kind_of}
use Rattle.values.specs.Format.{formed, datum_in, datum_of}
use Rattle.values.specs.Encoding.{FittingDatum}
use Rattle.values.specs.Shown.{display, dd_string, string_repr, readable, all_readable, datum_readable}
use Rattle.values.specs.Faults.{datum_fault}
use Rattle.values.specs.Laws.{Unclipped}
use Rattle.values.proofs.Decided.{is_text_decides}
use Rattle.values.proofs.Readback.{read_back}
use Rattle.values.proofs.Unclipped.{checked_is_never_clipped_lem}
use Rattle.blocks.specs.Layout.{offset_in, rows_in, row_at, row_place}
use Rattle.blocks.specs.Faults.{longest_key}
use Rattle.blocks.specs.Facts.{RowFact, facts, row_fact, facts_from}
use Rattle.blocks.specs.Lawful.{ReadableAtom, ReadableAll, Readable, ValueLawful, Lawful}
use Rattle.span_args.specs.ReadingOf.{datum_at}
use Rattle.conversion_law.specs.NeverClipped.{IsAttribute}

-- the value of an attribute
pub record Valued (a : RowFact) : Type 0 where
  pub datum : Datum
  pub is : datum_at a ≡ Some datum
  pub fits : FittingDatum datum
  pub readable : Readable datum
  pub display_whole : Unclipped (display datum)
  pub string_whole : Unclipped (string_repr datum)
  pub plain_whole : Unclipped (dd_string datum)
  pub key_short : length a.key ≤ 255

pub record SoundRow (a : RowFact) : Type 0 where
  pub key : IsUtf8 a.key
  pub value : IsAttribute a → Valued a

-- a value in the words of the check
atom-readable : (a : Atom) → ReadableAtom a → readable a ≡ true
atom-readable (flag b) h = refl
atom-readable (whole z) h = refl
atom-readable (double p t) h = (is_text_decides t).1 h
atom-readable (words t) h = (is_text_decides t).1 h

atoms-readable : (xs : List Atom) → ReadableAll xs → all_readable xs ≡ true
atoms-readable [] h = refl
atoms-readable (a ∷ xs) h = and_from _ _ (atom-readable a h.0) (atoms-readable xs h.1)

readable-true : (d : Datum) → Readable d → datum_readable d ≡ true
readable-true (single a) h = atom-readable a h
readable-true (several k xs) h = atoms-readable xs h

no-fault : (d : Datum) → Readable d → length (display d) ≤ 4096 → datum_fault (Some d) ≡ None
no-fault d h s = rw (readable-true d h, le-leb (length (display d)) 4096 s) refl

formed-in : (k : ValueKind) (b : List ℕ) (d : Datum) (t : Bool) → cond t (Some (datum_in k b)) None ≡ Some d → Some (datum_in k b) ≡ Some d
formed-in k b d true e = e
formed-in k b d false e = absurd (both_ways true (ap is_some (sym e)) refl)

value-in : (o : Option ValueKind) (b : List ℕ) (d : Datum) → datum_of o b ≡ Some d → option_map (λ k. datum_in k b) o ≡ Some d
value-in None b d e = absurd (both_ways true (ap is_some (sym e)) refl)
value-in (Some k) b d e = formed-in k b d (formed k b) e

pub portion-short : (m : List ℕ) (at n : ℕ) → length (portion m at n) ≤ n
unfolding portion
portion-short m at n = let e = length-take n (drop at m) in omega arith

longest-of : (l : ℕ) → (l ≡ 5 → ⊥) → longest_key l ≤ 255
longest-of l n = rw (ne_eqb l 5 n) (omega arith)

module _ (m : List ℕ) (w : Lawful m) where
  valued : (i : ℕ) → i < rows_in m → IsAttribute (row_fact m i) → Valued (row_fact m i)
  valued i h a =
      let r = row_at m (row_place i) in
      let l = w.rows i h in
      let v : ValueLawful r.kind (row_fact m i).value = (l.attribute a.0 a.1).value in
      let e = read_back r.kind (row_fact m i).value v.0 v.1 in
      let f = ap datum_fault e ∙ no-fault v.0 v.2 v.3 in
      let c = checked_is_never_clipped_lem r.kind (row_fact m i).value v.0 e f in
      record {
        datum = v.0;
        is = value-in (kind_of r.kind) (row_fact m i).value v.0 e;
        fits = v.1.fits;
        readable = v.2;
        display_whole = c.0;
        string_whole = c.1;
        plain_whole = c.2;
        key_short = omega (arith, portion-short m (offset_in m + r.key_place) r.key_length, l.key.short, longest-of r.list a.1);
      }

  sound : (i : ℕ) → i < rows_in m → SoundRow (row_fact m i)
  sound i h = record { key = (w.rows i h).key.utf8; value = valued i h }

  sound-from : (n i : ℕ) → i + n ≤ rows_in m → AllByRecursion SoundRow (facts_from m i n)
  unfolding facts_from
  sound-from zero i h = tt
  sound-from (suc n) i h = (sound i (omega arith), sound-from n (suc i) (omega arith))

  pub sound-rows : AllByRecursion SoundRow (facts m).rows
  sound-rows = sound-from (rows_in m) 0 (omega arith)
