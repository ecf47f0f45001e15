-- Another kind and value in a row that stood.
use Rattle.std.proofs.Common.{◌≡◌, ℕ, ◌+◌, ◌-◌, ◌<◌, ◌≤◌, List, length, set, Some, sym, ap, ◌∙◌, subst, arith}
use Rattle.lent_bytes.specs.Memory.{portion}
use Rattle.blocks.specs.Layout.{rows_in, offset_in, used_in, text_in, row_place, Row, row_at}
use Rattle.blocks.specs.Faults.{list_in}
use Rattle.blocks.specs.Faults.{key_in}
use Rattle.blocks.specs.Facts.{RowFact, facts, fact_at, row_fact, row_facts}
use Rattle.blocks.specs.Lawful.{ValueLawful, RowLawful}
use Rattle.drafts.specs.Held.{Content}
use Rattle.drafts.specs.Search.{place_from}
use Rattle.drafts.specs.Writes.{rowed, valued}
use Rattle.block_laws.proofs.Kept.{narrow, portion-whole}
use Rattle.block_laws.proofs.Sound.{Sound, Step, offset_step, text-step, text-lawful-step, list-step, key_step, above_step}
use Rattle.block_laws.proofs.Listed.{rows_replace}
use Rattle.blocks.proofs.Projected.{length-rows, get_or-rows}
use Rattle.draft_law.proofs.Rowed.{Fit, rowed-fixed, rowed-front, rowed-step, is_row, text_stands}
use Rattle.draft_law.proofs.Octets.{bytes-row}
use Rattle.draft_law.proofs.Tagged.{row_from, put, put_some, Placed}
use Rattle.draft_law.proofs.Told.{outcome_of, changed}
use Rattle.draft_law.proofs.Said.{Said, longest-key, rows-facts, rowed-sound}

module _ (m : List ℕ) (so : Sound m) (l : ℕ) (k : List ℕ) (c : Content) (sa : Said l k c) (n3 : l ≡ 3 → ⊥) (n5 : l ≡ 5 → ⊥) (j : ℕ) (found : place_from l k 0 (row_facts m) ≡ Some j) (fits : offset_in m + (used_in m + length c.value) ≤ length m) where
  abbrev q : Row
  q = row_at m (row_place j)

  abbrev x : Row
  x = valued q (used_in m) c

  abbrev t : List ℕ
  t = c.value

  abbrev w : List ℕ
  w = rowed m j (rows_in m) x t

  place : Placed l k c 0 j (row_facts m)
  place = put_some l k c 0 j (row_facts m) found

  here : j < rows_in m
  here = omega (arith, place.high, length-rows m)

  was : RowLawful m j q.list q
  was = so.each j here

  none : j - 0 ≡ j
  none = omega arith

  list-was : q.list ≡ l
  list-was = ap (λ (f : RowFact). f.list) (sym (get_or-rows m j (row_from l k c) here)) ∙ (rw none at (place.list_is (row_from l k c)))

  key-was : key_in m q ≡ k
  key-was = ap (λ (f : RowFact). f.key) (sym (get_or-rows m j (row_from l k c) here)) ∙ (rw none at (place.key_is (row_from l k c)))

  ok : Fit m j (rows_in m) x t
  ok =
      record {
        inside = omega (arith, so.rows, here);
        most = so.rows;
        old = λ i lt ne. lt;
        room = fits;
        short = omega (arith, was.key.short, longest-key q.list);
        key = omega (arith, was.key.inside);
        value = omega arith;
        time = sa.time_fits;
      }

  st : Step m w j (rows_in m) (used_in m + length t)
  st = rowed-step m so j (rows_in m) x t ok

  raw : row_at w (row_place j) ≡ x
  raw = is_row m so j (rows_in m) x t ok

  value-text : text_in w (used_in m) (length t) ≡ t
  value-text =
      let e : used_in m + 0 ≡ used_in m = omega arith in
      ap (λ y. portion w (y + used_in m) (length t)) (offset_step m w _ _ _ so st) ∙ ap (λ y. portion w (offset_in m + y) (length t)) (sym e) ∙ text_stands m so j (rows_in m) x t ok 0 (length t) (omega arith) ∙ portion-whole t

  key-text : key_in w x ≡ key_in m q
  key-text = text-step m w _ _ _ so st q.key_place q.key_length was.key.inside

  fact : row_fact w j ≡ row_from l k c
  fact =
      let kt = key-text ∙ key-was in
      ap (fact_at w) raw ∙ (λ i. record { list = list-was i; key = kt i; kind = c.kind; value = value-text i; time = c.time })

  pub replaced_rows : row_facts w ≡ put l k c (row_facts m)
  replaced_rows = rows_replace m w j _ so st here ∙ ap (set (row_facts m) j) fact ∙ sym (rw none at place.put_is)

  ids : j < rows_in m → (list_in w j ≡ list_in m j) × (key_in w (row_at w (row_place j)) ≡ key_in m (row_at m (row_place j)))
  ids h = (ap (λ (y : Row). y.list) raw, ap (key_in w) raw ∙ key-text)

  lawful : RowLawful w j q.list x
  lawful =
      record {
        list = was.list;
        event_above = λ e. let s = was.event_above e in let lt = s.1 in (s.0, s.1, list-step m w _ _ _ so st ids s.0 (omega (arith, here)) ∙ s.2);
        link_above = λ e. let s = was.link_above e in let lt = s.1 in (s.0, s.1, list-step m w _ _ _ so st ids s.0 (omega (arith, here)) ∙ s.2);
        few = omega (arith, above_step m w _ _ _ so st ids q.list j (omega (arith, here)), was.few);
        long_enough = was.long_enough;
        key = text-lawful-step m w _ _ _ so st _ _ _ was.key;
        event = λ e. absurd (n3 (sym list-was ∙ e));
        link = λ e. absurd (n5 (sym list-was ∙ e));
        attribute = λ a b. record { time = (sa.attribute n3 n5).0; inside = omega (arith, st.used); value = subst (ValueLawful c.kind) (sym value-text) (sa.attribute n3 n5).1 };
        once = λ e i lt li ke.
            was.once e i lt (sym (list-step m w _ _ _ so st ids i (omega (arith, here))) ∙ li) (sym (key_step m w _ _ _ so st ids i (omega (arith, here))) ∙ ke ∙ key-text);
      }

  pub replaced_sound : Sound w
  replaced_sound = rowed-sound m so j (rows_in m) x t ok (bytes-row x (omega (arith, was.list)) sa.kind_byte) sa.value_bytes ids lawful

  pub replaced_facts : facts w ≡ changed (facts m) (outcome_of (facts m)) (facts m).name (put l k c (row_facts m))
  replaced_facts =
      rows-facts m w _ _ _ so st (rowed-fixed m so j (rows_in m) x t ok) (narrow m w _ _ _ _ (rowed-front m so j (rows_in m) x t ok) (omega arith) (omega arith)) _ replaced_rows
