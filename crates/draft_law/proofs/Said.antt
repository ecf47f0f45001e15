-- A row that is said is a lawful row, new or in place of one that stood.
use Rattle.std.proofs.Common.{◌≡◌, ℕ, ◌+◌, ◌<◌, ◌≤◌, false, cond, eqb, List, [], ◌∷◌, ◌++◌, length, drop, pos, None, IsUtf8, sym, refl, ap, ◌∙◌, subst, ⊎_elim, arith, w64, SFits}
use Rattle.std.proofs.lemmas.Bool.Decides.{nat_tests}
use Rattle.std.proofs.lemmas.Slice.Eq.{bytes_eq-Decides}
use Rattle.std.proofs.lemmas.List.{length-append}
use Rattle.std.proofs.lemmas.Bool.{cases_eq, and_from, both_ways, cond-true, cond-false, eq-eqb, ne_eqb}
use Rattle.lent_bytes.specs.Memory.{Bytes, portion}
use Rattle.blocks.specs.Layout.{rows_in, offset_in, capacity_in, used_in, text_in, row_place, Row, row_at}
use Rattle.blocks.specs.Faults.{list_in}
use Rattle.blocks.specs.Faults.{above, least_key, longest_key, key_in}
use Rattle.blocks.specs.Facts.{RowFact, facts, fact_at, row_fact, row_facts, status_of}
use Rattle.blocks.specs.Lawful.{ValueLawful, RowLawful}
use Rattle.drafts.specs.Held.{Content}
use Rattle.drafts.specs.Search.{hit, place_from}
use Rattle.drafts.specs.Writes.{row_bytes, rowed, new_row}
use Rattle.block_laws.proofs.Kept.{Kept, byte_kept, narrow, portion_first, portion_second, portion-none}
use Rattle.block_laws.proofs.Sound.{Sound, Step, Head, head_80, head_88, head_96, head_104, head_112, offset_step, kind-step, list-step, key_step, above_step, sound-step}
use Rattle.block_laws.proofs.Listed.{rows_append}
use Rattle.blocks.proofs.Projected.{length-rows, get_or-rows}
use Rattle.draft_law.proofs.Rowed.{Fit, rowed-fixed, rowed-front, rowed-step, is_row, text_stands}
use Rattle.draft_law.proofs.Octets.{bytes_append, bytes-written, bytes-two, bytes-four, bytes-row}
use Rattle.draft_law.proofs.Tagged.{row_from, none-hit}
use Rattle.draft_law.proofs.Told.{outcome_of, changed, head-kept, head-lawful, facts-step}

-- what is said of a row is lawful by itself
pub record Said (l : ℕ) (k : List ℕ) (c : Content) : Type 0 where
  pub list : l ≤ 6
  pub least : least_key l ≤ length k
  pub most : length k ≤ longest_key l
  pub utf8 : IsUtf8 k
  pub key_bytes : Bytes k
  pub value_bytes : Bytes c.value
  pub kind_byte : c.kind < 256
  pub time_fits : SFits w64 c.time
  pub event : l ≡ 3 → (c.kind ≡ 0) × (c.value ≡ [])
  pub link : l ≡ 5 → (c.kind ≡ 0) × ((c.time ≡ pos 0) × (length c.value ≡ 25))
  pub attribute : (l ≡ 3 → ⊥) → (l ≡ 5 → ⊥) → (c.time ≡ pos 0) × ValueLawful c.kind c.value

-- there is room for one row more
pub record Room (m : List ℕ) (l : ℕ) (k : List ℕ) (c : Content) : Type 0 where
  pub event_above : l ≡ 4 → (j : ℕ) × (j < rows_in m) × (list_in m j ≡ 3)
  pub link_above : l ≡ 6 → (j : ℕ) × (j < rows_in m) × (list_in m j ≡ 5)
  pub few : above m l (rows_in m) < 128
  pub free : rows_in m < capacity_in m
  pub fits : offset_in m + (used_in m + (length k + length c.value)) ≤ length m
  pub fresh : l ≡ 1 → place_from l k 0 (row_facts m) ≡ None

pub longest-key : (l : ℕ) → longest_key l ≤ 512
longest-key l = grind (arith, nat_tests)

value_ends : (l u a b : ℕ) → cond (eqb l 3) 0 (u + a) + b ≤ u + (a + b)
value_ends l u a b = grind (arith, nat_tests)

-- what the facts are when rows alone change
pub rows-facts : (m m' : List ℕ) (j n u : ℕ) (so : Sound m) (st : Step m m' j n u) → Kept m m' 4 12 → Kept m m' 16 120 → (rs : List RowFact) → row_facts m' ≡ rs
    → facts m' ≡ changed (facts m) (outcome_of (facts m)) (facts m).name rs
rows-facts m m' j n u so st a b rs e =
    let k : (h : ℕ) → Head h → Kept m m' h (h + 8) = λ h hd. narrow m m' _ _ _ _ b (omega (arith, hd.0)) (omega (arith, hd.1.0)) in
    facts-step m m' (narrow m m' _ _ _ _ b (omega arith) (omega arith)) (kind-step m m' j n u so st)
    (outcome_of (facts m)) (ap status_of (byte_kept m m' _ _ a 11 (omega arith) (omega arith)))
    (head-kept m m' j n u so st 112 head_112 (k 112 head_112))
    (facts m).name (head-kept m m' j n u so st 80 head_80 (k 80 head_80))
    (head-kept m m' j n u so st 88 head_88 (k 88 head_88))
    (head-kept m m' j n u so st 96 head_96 (k 96 head_96))
    (head-kept m m' j n u so st 104 head_104 (k 104 head_104))
    rs e

-- memory with a row written is sound where the row is lawful
pub rowed-sound : (m : List ℕ) (so : Sound m) (j n : ℕ) (x : Row) (t : List ℕ) → Fit m j n x t → Bytes (row_bytes x) → Bytes t
    → (j < rows_in m → (list_in (rowed m j n x t) j ≡ list_in m j) × (key_in (rowed m j n x t) (row_at (rowed m j n x t) (row_place j)) ≡ key_in m (row_at m (row_place j))))
    → RowLawful (rowed m j n x t) j x.list x → Sound (rowed m j n x t)
rowed-sound m so j n x t ok bx bt ids lawful =
    let w = rowed m j n x t in
    let st = rowed-step m so j n x t ok in
    sound-step m w _ _ _ so st ids
    (bytes-written _ _ _ (bytes-written _ _ _ (bytes-written _ _ _ (bytes-written m (row_place j) (row_bytes x) so.bytes bx) bt) (bytes-two _)) (bytes-four _))
    (omega (arith, byte_kept m w _ _ (rowed-fixed m so j n x t ok) 11 (omega arith) (omega arith), so.status))
    (λ h hd. head-lawful m w _ _ _ so st h hd (narrow m w _ _ _ _ (rowed-front m so j n x t ok) (omega (arith, hd.0)) (omega (arith, hd.1.0))))
    (λ lt. subst (λ (y : Row). RowLawful w j y.list y) (sym (is_row m so j n x t ok)) lawful)

-- one row more
module _ (m : List ℕ) (so : Sound m) (l : ℕ) (k : List ℕ) (c : Content) (sa : Said l k c) (ro : Room m l k c) where
  abbrev r : ℕ
  r = rows_in m

  abbrev x : Row
  x = new_row (used_in m) l k c

  abbrev t : List ℕ
  t = k ++ c.value

  abbrev w : List ℕ
  w = rowed m r (r + 1) x t

  both : length t ≡ length k + length c.value
  both = length-append k c.value

  ok : Fit m r (r + 1) x t
  ok =
      record {
        inside = ro.free;
        most = omega (arith, ro.free);
        old = λ i lt ne. grind arith;
        room = omega (arith, ro.fits, both);
        short = omega (arith, sa.most, longest-key l);
        key = omega (arith, both);
        value = omega (arith, both, value_ends l (used_in m) (length k) (length c.value));
        time = sa.time_fits;
      }

  st : Step m w r (r + 1) (used_in m + length t)
  st = rowed-step m so r (r + 1) x t ok

  raw : row_at w (row_place r) ≡ x
  raw = is_row m so r (r + 1) x t ok

  -- a part of the new text, by its place
  new-text : (o n : ℕ) → o + n ≤ length t → text_in w (used_in m + o) n ≡ portion t o n
  new-text o n h = ap (λ y. portion w (y + (used_in m + o)) n) (offset_step m w _ _ _ so st) ∙ text_stands m so r (r + 1) x t ok o n h

  key-text : text_in w (used_in m) (length k) ≡ k
  key-text =
      let e : used_in m + 0 ≡ used_in m = omega arith in
      ap (λ y. text_in w y (length k)) (sym e) ∙ new-text 0 (length k) (omega (arith, both)) ∙ portion_first k c.value

  value-text : text_in w x.value_place (length c.value) ≡ c.value
  value-text =
      ⊎_elim
      (λ (e : l ≡ 3). let v = (sa.event e).1 in ap (λ y. text_in w x.value_place (length y)) v ∙ portion-none w _ ∙ sym v)
      (λ (ne : l ≡ 3 → ⊥). let p = cond-false (eqb l 3) 0 (used_in m + length k) (ne_eqb l 3 ne) in
      ap (λ y. text_in w y (length c.value)) p ∙ new-text (length k) (length c.value) (omega (arith, both)) ∙ portion_second k c.value)
      (cases_eq l 3)

  fact : row_fact w r ≡ row_from l k c
  fact = ap (fact_at w) raw ∙ (λ i. record { list = l; key = key-text i; kind = c.kind; value = value-text i; time = c.time })

  pub appended_rows : row_facts w ≡ row_facts m ++ row_from l k c ∷ []
  appended_rows = rows_append m w _ so st ∙ ap (λ f. row_facts m ++ f ∷ []) fact

  ids : r < rows_in m → (list_in w r ≡ list_in m r) × (key_in w (row_at w (row_place r)) ≡ key_in m (row_at m (row_place r)))
  ids h = absurd (omega arith)

  inside : x.value_place + x.value_length ≤ used_in w
  inside = omega (arith, both, value_ends l (used_in m) (length k) (length c.value), st.used)

  -- a resource key that is new stands nowhere above
  once : l ≡ 1 → (j : ℕ) → j < r → list_in w j ≡ 1 → key_in w (row_at w (row_place j)) ≡ key_in w x → ⊥
  once e j lt li ke =
      let a : (row_fact m j).list ≡ l = sym (list-step m w _ _ _ so st ids j lt) ∙ li ∙ sym e in
      let b : (row_fact m j).key ≡ k = sym (key_step m w _ _ _ so st ids j lt) ∙ ke ∙ key-text in
      let g = get_or-rows m j (row_fact m j) lt in
      let f = none-hit l k 0 (row_facts m) (ro.fresh e) j (row_fact m j) (omega (arith, length-rows m)) in
      let n : hit l k (row_fact m j) (drop (j + 1) (row_facts m)) ≡ false = ap (λ y. hit l k y (drop (j + 1) (row_facts m))) (sym g) ∙ f in
      let own : hit 1 k (row_fact m j) (drop (j + 1) (row_facts m)) ≡ false = ap (λ y. hit y k (row_fact m j) (drop (j + 1) (row_facts m))) (sym e) ∙ n in
      both_ways _ own (and_from _ _ (eq-eqb _ _ (a ∙ e)) (and_from _ _ ((bytes_eq-Decides _ _).1 b) refl))

  lawful : RowLawful w r l x
  lawful =
      record {
        list = sa.list;
        event_above = λ e. let s = ro.event_above e in (s.0, s.1, list-step m w _ _ _ so st ids s.0 s.1 ∙ s.2);
        link_above = λ e. let s = ro.link_above e in (s.0, s.1, list-step m w _ _ _ so st ids s.0 s.1 ∙ s.2);
        few = omega (arith, above_step m w _ _ _ so st ids l r (omega arith), ro.few);
        long_enough = sa.least;
        key = record { short = sa.most; inside = omega (arith, both, st.used); utf8 = subst IsUtf8 (sym key-text) sa.utf8 };
        event = λ e. record { kind = (sa.event e).0; length = ap length (sa.event e).1; place = cond-true (eqb l 3) 0 _ (eq-eqb l 3 e) };
        link = λ e. record { kind = (sa.link e).0; time = (sa.link e).1.0; length = (sa.link e).1.1; inside = inside };
        attribute = λ a b. record { time = (sa.attribute a b).0; inside = inside; value = subst (ValueLawful c.kind) (sym value-text) (sa.attribute a b).1 };
        once = once;
      }

  pub appended_sound : Sound w
  appended_sound = rowed-sound m so r (r + 1) x t ok (bytes-row x (omega (arith, sa.list)) sa.kind_byte) (bytes_append k c.value sa.key_bytes sa.value_bytes) ids lawful

  pub appended_facts : (rs : List RowFact) → rs ≡ row_facts m ++ row_from l k c ∷ [] → facts w ≡ changed (facts m) (outcome_of (facts m)) (facts m).name rs
  appended_facts rs e =
      rows-facts m w _ _ _ so st (rowed-fixed m so r (r + 1) x t ok) (narrow m w _ _ _ _ (rowed-front m so r (r + 1) x t ok) (omega arith) (omega arith)) rs (appended_rows ∙ sym e)
