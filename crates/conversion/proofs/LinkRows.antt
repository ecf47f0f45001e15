-- Where the text of a row lies among the texts of the links.
use Rattle.std.proofs.Common.{◌≡◌, ℕ, zero, suc, ◌+◌, ◌-◌, ◌*◌, ◌<◌, ◌≤◌, Bool, true, false, ◌&&◌, List, [], ◌∷◌, ◌++◌, length, pos, negsuc, ℤ, Some, None, Option, refl, ap, sym, ◌∙◌, ⊎_elim, arith, ◌==◌}
use native.Mathlib.Nat.{eq-or-lt_of_le}
use Rattle.std.proofs.lemmas.List.{append_assoc, length-append}
use Rattle.lent_bytes.specs.Memory.{clip}
use Rattle.lent_bytes.proofs.Clips.{length-clip}
use Rattle.values.specs.Atoms.{Datum, flag, whole, double, words, single, several}
use Rattle.blocks.specs.Facts.{RowFact, fact_at, row_fact, row_facts, facts_from}
use Rattle.blocks.specs.Layout.{rows_in, raw_of, row_at, row_place}
use Rattle.blocks.specs.declared.layout.RawRow.{RawRow}
use Rattle.blocks.specs.declared.lists.Owner.TheVariants.{Link}
use Rattle.span_args.specs.ReadingOf.{datum_at}
use Rattle.conversion.specs.ByKey.{IsUnder}
use Rattle.conversion.specs.Forms.{number_form, string_form}
use Rattle.conversion.specs.LinkTexts.{Lies, ReadAt, link_text, or_link, link_texts}
use Rattle.conversion.specs.Pieces.{form_text, piece_text}
use Rattle.conversion.specs.Spans.{arena_for}
use Rattle.conversion.specs.declared.pieces.Form.{Form}
use Rattle.conversion.specs.declared.pieces.Piece.{Piece}
use Rattle.conversion.proofs.LinkLemmas.{link_text-some}
use Rattle.conversion.proofs.Lying.{lies_part}

-- a text that is placed has 4096 bytes at most
clip_few : (t : List ℕ) → length (clip 4096 t) ≤ 4096
clip_few t = let l = length-clip 4096 t in omega arith

number_few : (z : Option ℤ) (t : List ℕ) → length (arena_for (number_form z t)) ≤ 4096
number_few None t = clip_few t
number_few (Some (pos zero)) t = omega arith
number_few (Some (pos (suc zero))) t = omega arith
number_few (Some (pos (suc (suc n)))) t = clip_few t
number_few (Some (negsuc n)) t = clip_few t

string_few : (d : Option Datum) → length (arena_for (string_form d)) ≤ 4096
string_few None = omega arith
string_few (Some (single (flag b))) = omega arith
string_few (Some (single (whole z))) = number_few (Some z) _
string_few (Some (single (double p t))) = number_few _ t
string_few (Some (single (words t))) = omega arith
string_few (Some (several k xs)) = clip_few _

pub few_placed : (d : Option Datum) (n : ℕ) → n ≡ length (arena_for (string_form d)) → n ≤ 4096
few_placed d n e = let s = string_few d in omega arith

-- how long the texts of the rows above the row j are: those from i on are still to come
module _ (b : List ℕ) (j : ℕ) where
  pub record Counted (below : Bool) (i len : ℕ) : Type 0 where
    pub few : len ≤ 4096 * i
    pub coming : len + length (link_texts below (facts_from b i (j - i))) ≡ length (link_texts false (facts_from b 0 j))

  pub counted_all : Counted false 0 0
  counted_all = let z : j - 0 ≡ j = omega arith in record { few = omega arith; coming = rw z (omega arith) }

  module _ (below : Bool) (i len : ℕ) (t : Counted below i len) where
    rows_more : i < j → length (link_texts below (facts_from b i (j - i))) ≡ length (link_text below (row_fact b i)) + length (link_texts (or_link below (row_fact b i)) (facts_from b (i + 1) (j - (i + 1))))
    unfolding facts_from link_texts
    rows_more h =
        let z : j - i ≡ suc (j - (i + 1)) = omega arith in
        let g : suc i ≡ i + 1 = omega arith in
        rw (z, ← g) (length-append (link_text below (row_fact b i)) _)

    pub counted_more : (n : ℕ) (next : Bool) → i < j → n ≡ length (link_text below (row_fact b i)) → n ≤ 4096 → next ≡ or_link below (row_fact b i) → Counted next (i + 1) (len + n)
    counted_more n next h e f g =
        let m = rows_more h in
        let c = t.coming in
        let w = t.few in
        record { few = omega arith; coming = rw g (omega arith) }

    pub counted_end : j ≤ i → len ≡ length (link_texts false (facts_from b 0 j))
    unfolding facts_from link_texts
    counted_end h =
        let z : j - i ≡ 0 = omega arith in
        let none : length (link_texts below (facts_from b i (j - i))) ≡ 0 = rw z refl in
        let c = t.coming in
        omega arith

-- whether what comes behind some rows stands below a link
below_in : Bool → List RowFact → Bool
below_in below [] = below
below_in below (r ∷ rs) = below_in (or_link below r) rs

texts-behind : (below : Bool) (xs ys : List RowFact) → link_texts below (xs ++ ys) ≡ link_texts below xs ++ link_texts (below_in below xs) ys
unfolding link_texts below_in
texts-behind below [] ys = refl
texts-behind below (x ∷ xs) ys = ap (λ t. link_text below x ++ t) (texts-behind (or_link below x) xs ys) ∙ sym (append_assoc (link_text below x) _ _)

below-kept : (xs : List RowFact) → below_in true xs ≡ true
unfolding below_in
below-kept [] = refl
below-kept (x ∷ xs) = below-kept xs

or-link : (below : Bool) (r : RowFact) → r.list ≡ 5 → or_link below r ≡ true
or-link true r e = refl
or-link false r e = rw e refl

below-found : (b : List ℕ) (k n i : ℕ) (below : Bool) → i ≤ k → k < i + n → (row_fact b k).list ≡ 5 → below_in below (facts_from b i n) ≡ true
unfolding below_in facts_from
below-found b k zero i below h g e = absurd (omega arith)
below-found b k (suc n) i below h g e =
    ⊎_elim
    (λ s. let f : (row_fact b i).list ≡ 5 = ap (λ x. (row_fact b x).list) s ∙ e in ap (λ t. below_in t (facts_from b (suc i) n)) (or-link below (row_fact b i) f) ∙ below-kept (facts_from b (suc i) n))
    (λ s. below-found b k n (suc i) (or_link below (row_fact b i)) (omega arith) (omega arith) e)
    (eq-or-lt_of_le h)

rows-behind : (b : List ℕ) (j n i : ℕ) → facts_from b i (j + n) ≡ facts_from b i j ++ facts_from b (i + j) n
unfolding facts_from
rows-behind b zero n i = let z : i + 0 ≡ i = omega arith in let y : 0 + n ≡ n = omega arith in rw (z, y) refl
rows-behind b (suc j) n i =
    let z : i + suc j ≡ suc i + j = omega arith in
    let y : suc j + n ≡ suc (j + n) = omega arith in
    rw (z, y) (ap (λ rs. row_fact b i ∷ rs) (rows-behind b j n (suc i)))

module _ (b : List ℕ) (j : ℕ) (u : IsUnder b Link j) where
  abbrev above : List RowFact
  above = facts_from b 0 j

  abbrev behind : List RowFact
  behind = facts_from b (suc j) (rows_in b - suc j)

  abbrev text : List ℕ
  text = arena_for (string_form (datum_at (row_fact b j)))

  rows-parted : row_facts b ≡ above ++ (row_fact b j ∷ behind)
  unfolding facts_from
  rows-parted =
      let w = u.within in
      let z : rows_in b ≡ j + suc (rows_in b - suc j) = omega arith in
      let y : 0 + j ≡ j = omega arith in
      ap (λ n. facts_from b 0 n) z ∙ rows-behind b j (suc (rows_in b - suc j)) 0 ∙ ap (λ k. above ++ facts_from b k (suc (rows_in b - suc j))) y

  below : below_in false above ≡ true
  below = let a = u.above in below-found b u.head j 0 false (omega arith) (omega arith) u.owner

  is_text : link_text true (row_fact b j) ≡ text
  is_text = let e : (true && (row_fact b j).list == 6) ≡ true = rw u.list refl in link_text-some true (row_fact b j) e

  texts-parted : link_texts false (row_facts b) ≡ link_texts false above ++ (text ++ link_texts true behind)
  unfolding link_texts
  texts-parted =
      ap (link_texts false) rows-parted
      ∙ texts-behind false above (row_fact b j ∷ behind)
      ∙ ap (λ t. link_texts false above ++ link_texts t (row_fact b j ∷ behind)) below
      ∙ ap (λ t. link_texts false above ++ (t ++ link_texts true behind)) is_text

  -- so the text of the row j lies behind those of the rows above
  pub row_lies : (a : List ℕ) (at : ℕ) → Lies a at (link_texts false (row_facts b)) → Lies a (at + length (link_texts false above)) text
  row_lies a at h = lies_part a (link_texts false above) text (link_texts true behind) at (rw (← texts-parted) h)

-- the text of the row j, read where it is said to lie
pub text_found : (b a : List ℕ) (j at n : ℕ) (g : Form) (p : Piece) (r : RawRow) → IsUnder b Link j → Lies a at (link_texts false (row_facts b)) → n ≡ length (link_texts false (facts_from b 0 j))
    → form_text b g ≡ string_form (datum_at (fact_at b (raw_of r))) → raw_of r ≡ row_at b (row_place j)
    → ReadAt (at + n) g p
    → piece_text b a p ≡ string_form (datum_at (row_fact b j))
text_found b a j at n g p r u h e f q k =
    let t : form_text b g ≡ string_form (datum_at (row_fact b j)) = f ∙ ap (λ x. string_form (datum_at (fact_at b x))) q in
    k b a (rw (e, t) (row_lies b j u a at h)) ∙ t
