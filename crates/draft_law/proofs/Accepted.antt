-- What a call that is not refused has been found to meet.
use Rattle.std.proofs.Common.{◌≡◌, ℕ, ◌+◌, ◌<◌, ◌≤◌, Bool, true, false, cond, ◌&&◌, eqb, leb, List, length, ℤ, pos, Some, None, IsUtf8, Option, sym, refl, ap, ◌∙◌, arith, w64, SFits, rules}
use Rattle.std.specs.Option.{option_map}
use Rattle.std.proofs.lemmas.Bool.Decides.{nat_tests}
use Rattle.std.proofs.lemmas.Bool.{and_parts, and_from, or_parts, leb-true, leb-false, eqb-true, eq-eqb, both_ways}
use Rattle.lent_bytes.specs.Memory.{Bytes}
use Rattle.values.specs.Unicode.{is_text}
use Rattle.values.specs.Faults.{value_fault}
use Rattle.values.specs.declared.check.ValueFault.TheVariants.{Form}
use Rattle.values.proofs.Decided.{is_text_decides}
use Rattle.blocks.specs.Layout.{rows_in, offset_in, capacity_in, used_in}
use Rattle.blocks.specs.Faults.{list_in}
use Rattle.blocks.specs.First.{or_else}
use Rattle.blocks.specs.Faults.{above, least_key, longest_key}
use Rattle.blocks.specs.Facts.{row_facts}
use Rattle.blocks.proofs.Clean.{some_none}
use Rattle.blocks.proofs.Lawfully.{value_clean, counted_stands, events_unowned, links_unowned}
use Rattle.drafts.specs.declared.refusal.Refusal.TheVariants.{List as NoList, Owner, Key, KeyNotUtf8, Value, Text, NoRoom}
use Rattle.drafts.specs.Held.{attribute_content, event_content, link_content}
use Rattle.drafts.specs.Search.{place_from}
use Rattle.drafts.specs.Memory.{text_refusal, key_refusal, settable, unowned, fits, text_room, row_room, room_of_set, set_refusal, event_refusal, link_refusal, head_refusal}
use Rattle.draft_law.proofs.Said.{Said, Room}

-- checks one after another
pub or_none : {E : Type 0} (a b : Option E) → or_else a b ≡ None → (a ≡ None) × (b ≡ None)
or_none None b h = (refl, h)
or_none (Some e) b h = some_none e h

pub then-none : {E : Type 0} (t : Bool) (f : E) (x : Option E) → cond t (Some f) x ≡ None → (t ≡ false) × (x ≡ None)
then-none true f x h = some_none f h
then-none false f x h = (refl, h)

pub else_none : {E : Type 0} (t : Bool) (x : Option E) (f : E) → cond t x (Some f) ≡ None → (t ≡ true) × (x ≡ None)
else_none true x f h = (refl, h)
else_none false x f h = some_none f h

pub mapped-none : {E F : Type 0} (g : E → F) (o : Option E) → option_map g o ≡ None → o ≡ None
mapped-none g None h = refl
mapped-none g (Some e) h = some_none (g e) h

pub text_tells : (most : ℕ) (t : List ℕ) → text_refusal most t ≡ None → (length t ≤ most) × IsUtf8 t
text_tells most t h =
    let p = else_none (leb (length t) most) _ _ h in
    let q = else_none (is_text t) None _ p.1 in
    (leb-true _ _ p.0, (is_text_decides t).0 q.0)

pub fits_tells : (m : List ℕ) (n : ℕ) → text_room m n ≡ None → offset_in m + (used_in m + n) ≤ length m
fits_tells m n h = let p = leb-true _ _ (else_none (fits m n) None NoRoom h).0 in omega arith

pub head_tells : (m : List ℕ) (most : ℕ) (t : List ℕ) → head_refusal m most t ≡ None → (offset_in m + (used_in m + length t) ≤ length m) × ((length t ≤ most) × IsUtf8 t)
head_tells m most t h =
    let p = or_none (option_map Text (text_refusal most t)) _ h in
    (fits_tells m (length t) p.1, text_tells most t (mapped-none Text _ p.0))

row_tells : (m : List ℕ) (l n : ℕ) → row_room m l n ≡ None → (above m l (rows_in m) < 128) × ((rows_in m < capacity_in m) × (offset_in m + (used_in m + n) ≤ length m))
row_tells m l n h =
    let p = then-none (leb 128 (above m l (rows_in m))) _ _ h in
    let q = then-none (leb (capacity_in m) (rows_in m)) _ _ p.1 in
    (leb-false _ _ p.0, (leb-false _ _ q.0, fits_tells m n q.1))

-- an attribute
pub record SetTells (m : List ℕ) (o : Option ℕ) (l : ℕ) (k : List ℕ) (n : ℕ) (v : List ℕ) : Type 0 where
  pub not_event : l ≡ 3 → ⊥
  pub not_link : l ≡ 5 → ⊥
  pub said : Said l k (attribute_content n v)
  pub event_above : l ≡ 4 → (j : ℕ) × (j < rows_in m) × (list_in m j ≡ 3)
  pub link_above : l ≡ 6 → (j : ℕ) × (j < rows_in m) × (list_in m j ≡ 5)
  pub room : room_of_set m o l (length k) (length v) ≡ None

least-one : (l : ℕ) → least_key l ≤ 1
least-one l = grind (arith, nat_tests)

most_255 : (l : ℕ) → 255 ≤ longest_key l
most_255 l = grind (arith, nat_tests)

zero-fits : SFits w64 (pos 0)
zero-fits = search rules

list_tells : (l : ℕ) → settable l ≡ true → (l ≤ 6) × ((l ≡ 3 → ⊥) × (l ≡ 5 → ⊥))
list_tells l h = (grind (arith, nat_tests), (λ e. let z = ap settable (sym e) ∙ h in both_ways (settable 3) refl z, λ e. let z = ap settable (sym e) ∙ h in both_ways (settable 5) refl z))

pub set_tells : (m : List ℕ) (o : Option ℕ) (l : ℕ) (k : List ℕ) (n : ℕ) (v : List ℕ) → Bytes k → n < 256 → Bytes v → set_refusal m o l k n v ≡ None → SetTells m o l k n v
set_tells m o l k n v bk bn bv h =
    let p = else_none (settable l) _ NoList h in
    let q = then-none (unowned m l) Owner _ p.1 in
    let s = or_none (key_refusal k) _ q.1 in
    let u = or_none (option_map Value (value_fault n v)) _ s.1 in
    let a = else_none (leb 1 (length k) && leb (length k) 255) _ Key s.0 in
    let b = else_none (is_text k) None KeyNotUtf8 a.1 in
    let d = and_parts (leb 1 (length k)) (leb (length k) 255) a.0 in
    let x = leb-true _ _ d.0 in
    let y = leb-true _ _ d.1 in
    let ls = list_tells l p.0 in
    let un = or_parts (eqb l 4 && eqb (above m 3 (rows_in m)) 0) _ q.0 in
    record {
      not_event = ls.1.0;
      not_link = ls.1.1;
      said = record {
        list = ls.0;
        least = omega (arith, least-one l);
        most = omega (arith, most_255 l);
        utf8 = (is_text_decides k).0 b.0;
        key_bytes = bk;
        value_bytes = bv;
        kind_byte = bn;
        time_fits = zero-fits;
        event = λ e. absurd (ls.1.0 e);
        link = λ e. absurd (ls.1.1 e);
        attribute = λ _ _. (refl, (value_clean n v bv).0 (mapped-none Value _ u.0));
      };
      event_above = λ e. counted_stands m 3 (rows_in m) events_unowned (λ z. both_ways _ un.0 (and_from _ _ (eq-eqb l 4 e) (eq-eqb _ 0 z)));
      link_above = λ e. counted_stands m 5 (rows_in m) links_unowned (λ z. both_ways _ un.1 (and_from _ _ (eq-eqb l 6 e) (eq-eqb _ 0 z)));
      room = u.1;
    }

-- a new attribute, an event and a link have room
pub set_room : (m : List ℕ) (l : ℕ) (k : List ℕ) (n : ℕ) (v : List ℕ) → place_from l k 0 (row_facts m) ≡ None → SetTells m None l k n v → Room m l k (attribute_content n v)
set_room m l k n v none t =
    let r = row_tells m l (length k + length v) t.room in
    record { event_above = t.event_above; link_above = t.link_above; few = r.0; free = r.1.0; fits = r.1.1; fresh = λ e. none }

pub event_tells : (m : List ℕ) (t : List ℕ) (z : ℤ) → Bytes t → SFits w64 z → event_refusal m t ≡ None → Said 3 t (event_content z) × Room m 3 t (event_content z)
event_tells m t z b f h =
    let p = or_none (option_map Text (text_refusal 255 t)) _ h in
    let q = text_tells 255 t (mapped-none Text _ p.0) in
    let r = row_tells m 3 (length t) p.1 in (
      record {
        list = omega arith;
        least = omega arith;
        most = q.0;
        utf8 = q.1;
        key_bytes = b;
        value_bytes = λ i. omega arith;
        kind_byte = omega arith;
        time_fits = f;
        event = λ _. (refl, refl);
        link = λ e. absurd (omega arith);
        attribute = λ n _. absurd (n refl);
      },
      record { event_above = λ e. absurd (omega arith); link_above = λ e. absurd (omega arith); few = r.0; free = r.1.0; fits = omega (arith, r.1.1); fresh = λ e. absurd (omega arith) },
    )

pub link_tells : (m : List ℕ) (t v : List ℕ) → Bytes t → Bytes v → link_refusal m t v ≡ None → Said 5 t (link_content v) × Room m 5 t (link_content v)
link_tells m t v b bv h =
    let p = or_none (option_map Text (text_refusal 512 t)) _ h in
    let q = text_tells 512 t (mapped-none Text _ p.0) in
    let s = else_none (eqb (length v) 25) _ (Value Form) p.1 in
    let r = row_tells m 5 (length t + length v) s.1 in (
      record {
        list = omega arith;
        least = omega arith;
        most = q.0;
        utf8 = q.1;
        key_bytes = b;
        value_bytes = bv;
        kind_byte = omega arith;
        time_fits = zero-fits;
        event = λ e. absurd (omega arith);
        link = λ _. (refl, (refl, eqb-true _ _ s.0));
        attribute = λ _ n. absurd (n refl);
      },
      record { event_above = λ e. absurd (omega arith); link_above = λ e. absurd (omega arith); few = r.0; free = r.1.0; fits = r.1.1; fresh = λ e. absurd (omega arith) },
    )
