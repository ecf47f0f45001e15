-- One call: what it leaves of the facts, whatever its answer.
use Rattle.std.proofs.Common.{◌≡◌, ℕ, zero, suc, ◌+◌, Bool, true, false, cond, eqb, leb, ◌⊎◌, List, [], length, Some, None, Option, sym, refl, ap, ◌∙◌, inl, inr, ⊎_elim, arith}
use Rattle.std.proofs.lemmas.Bool.{cond_both, eqb-true, eqb-false, ne_eqb, leb-true, or_parts, or_cases, or_right}
use Rattle.blocks.specs.Layout.{status_in}
use Rattle.blocks.specs.Facts.{Facts, RowFact, facts, row_facts, status_of}
use Rattle.blocks.specs.declared.span_kind.StatusCode.{StatusCode}
use Rattle.blocks.specs.declared.span_kind.StatusCode.TheVariants.{Unset, Ok, Error}
use Rattle.drafts.specs.declared.refusal.Applied.{Applied}
use Rattle.drafts.specs.declared.refusal.Applied.TheVariants.{Changed, Unchanged}
use Rattle.drafts.specs.declared.refusal.Refusal.{Refusal}
use Rattle.drafts.specs.declared.refusal.Refusal.TheVariants.{Status as NoStatus}
use Rattle.drafts.specs.Calls.{Call, Set, Event, Link, Status, Rename, SizedCall}
use Rattle.drafts.specs.Refused.{accepted, changes, full_refusal, list_full}
use Rattle.drafts.specs.Held.{Outcome, Content, attribute_content, event_content, link_content, events_by, links_by, named, stated, replacing, unless_ok}
use Rattle.drafts.specs.Search.{count, place_from}
use Rattle.drafts.specs.Writes.{stored, status_written, drop_more}
use Rattle.drafts.specs.Memory.{status_stays, status_refusal, head_refusal, refusal, applied, answered, answer, done, counted, after}
use Rattle.block_laws.proofs.Sound.{Sound}
use Rattle.draft_law.proofs.Tagged.{put, count-put, head-last, put-none}
use Rattle.draft_law.proofs.Told.{outcome_of, changed}
use Rattle.draft_law.proofs.Said.{Said, Room, appended_sound, appended_facts}
use Rattle.draft_law.proofs.Replaced.{replaced_sound, replaced_facts}
use Rattle.draft_law.proofs.Renamed.{renamed, described, undescribed, status-set, dropped}
use Rattle.draft_law.proofs.Accepted.{else_none, then-none, fits_tells, head_tells, SetTells, set_tells, set_room, event_tells, link_tells}

-- what a call leaves: sound memory, its facts, and how many events and links there are
pub record Left (m : List ℕ) (f : Facts) (e l : ℕ) : Type 0 where
  pub sound : Sound m
  pub facts_are : facts m ≡ f
  pub events_are : count 3 f.rows ≡ e
  pub links_are : count 5 f.rows ≡ l

-- the rows after a call
abbrev pub step_rows : Bool → Call → List RowFact → List RowFact
step_rows true (Set l k n v) rs = put l k (attribute_content n v) rs
step_rows true (Event t z) rs = put 3 t (event_content z) rs
step_rows true (Link t v) rs = put 5 t (link_content v) rs
step_rows true (Status s d) rs = rs
step_rows true (Rename t) rs = rs
step_rows false c rs = rs

-- the facts after a call
abbrev pub step_facts : Bool → Call → Facts → Facts
step_facts b c f = changed f (stated b c (outcome_of f)) (named b c f.name) (step_rows b c f.rows)

abbrev Follows : List ℕ → Call → Bool → List ℕ → Type 0
Follows m c b m' = Left m' (step_facts b c (facts m)) (count 3 (row_facts m) + events_by b c) (count 5 (row_facts m) + links_by b c)

none_more : (l h : ℕ) (rs : List RowFact) → (l ≡ h → ⊥) → count h rs + cond (eqb l h) 1 0 ≡ count h rs + 0
none_more l h rs ne = ap (λ b. count h rs + cond b 1 0) (ne_eqb l h ne)

-- an attribute, in the row that was found or in a new one
set_left : (m : List ℕ) (so : Sound m) (l : ℕ) (k : List ℕ) (n : ℕ) (v : List ℕ) (o : Option ℕ) → place_from l k 0 (row_facts m) ≡ o → SetTells m o l k n v → Follows m (Set l k n v) true (stored m o l k (attribute_content n v))
set_left m so l k n v None e t =
    let c = attribute_content n v in
    let ro = set_room m l k n v e t in
    record {
      sound = appended_sound m so l k c t.said ro;
      facts_are = appended_facts m so l k c t.said ro _ (put-none l k c 0 (row_facts m) e);
      events_are = count-put 3 (inl refl) l k c (row_facts m) ∙ none_more l 3 (row_facts m) t.not_event;
      links_are = count-put 5 (inr refl) l k c (row_facts m) ∙ none_more l 5 (row_facts m) t.not_link;
    }
set_left m so l k n v (Some j) e t =
    let c = attribute_content n v in
    let f = fits_tells m (length v) t.room in
    record {
      sound = replaced_sound m so l k c t.said t.not_event t.not_link j e f;
      facts_are = replaced_facts m so l k c t.said t.not_event t.not_link j e f;
      events_are = count-put 3 (inl refl) l k c (row_facts m) ∙ none_more l 3 (row_facts m) t.not_event;
      links_are = count-put 5 (inr refl) l k c (row_facts m) ∙ none_more l 5 (row_facts m) t.not_link;
    }

-- an event or a link is always a row more
add_left : (m : List ℕ) (so : Sound m) (l : ℕ) (is : (l ≡ 3) ⊎ (l ≡ 5)) (t : List ℕ) (c : Content) → Said l t c → Room m l t c
    → Left (stored m None l t c) (changed (facts m) (outcome_of (facts m)) (facts m).name (put l t c (row_facts m))) (count 3 (row_facts m) + cond (eqb l 3) 1 0) (count 5 (row_facts m) + cond (eqb l 5) 1 0)
add_left m so l is t c sa ro =
    record {
      sound = appended_sound m so l t c sa ro;
      facts_are = appended_facts m so l t c sa ro _ (head-last l is t c (row_facts m));
      events_are = count-put 3 (inl refl) l t c (row_facts m);
      links_are = count-put 5 (inr refl) l t c (row_facts m);
    }

-- nothing changes
same_left : (m : List ℕ) (so : Sound m) (f : Facts) → facts m ≡ f → Left m f (count 3 (row_facts m) + 0) (count 5 (row_facts m) + 0)
same_left m so f e =
    let rs = ap (λ (x : Facts). x.rows) (sym e) in
    let a = ap (count 3) rs in
    let b = ap (count 5) rs in
    record { sound = so; facts_are = e; events_are = omega arith; links_are = omega arith }

-- the header changes and no row
head_left : (m m' : List ℕ) (o : Outcome) (n : List ℕ) → Sound m' → facts m' ≡ changed (facts m) o n (row_facts m) → Left m' (changed (facts m) o n (row_facts m)) (count 3 (row_facts m) + 0) (count 5 (row_facts m) + 0)
head_left m m' o n so e = record { sound = so; facts_are = e; events_are = omega arith; links_are = omega arith }

-- Ok is final, and Unset replaces nothing
keeps : (x : StatusCode) (o : Outcome) → unless_ok x o o ≡ o
keeps Unset o = refl
keeps Ok o = refl
keeps Error o = refl

replaces : (n : ℕ) → (n ≡ 1 → ⊥) → (o p : Outcome) → unless_ok (status_of n) o p ≡ p
replaces n ne o p = ap (λ b. unless_ok (cond b Ok (cond (eqb n 2) Error Unset)) o p) (ne_eqb n 1 ne) ∙ by (eqb n 2)
  where
    by : (b : Bool) → unless_ok (cond b Error Unset) o p ≡ p
    by true = refl
    by false = refl

final : (n : ℕ) → n ≡ 1 → (o p : Outcome) → unless_ok (status_of n) o p ≡ o
final n e o p = ap (λ x. unless_ok (status_of x) o p) e

stays-facts : (m : List ℕ) (s : ℕ) (d : List ℕ) → status_stays m s ≡ true → facts m ≡ step_facts true (Status s d) (facts m)
stays-facts m s d t =
    let o = outcome_of (facts m) in
    let same : stated true (Status s d) o ≡ o =
    ⊎_elim
    (λ a. final (status_in m) (eqb-true _ _ a) o _)
    (λ a. ap (λ x. unless_ok (facts m).status o (replacing (status_of x) d o)) (eqb-true s 0 a) ∙ keeps (facts m).status o)
    (or_cases (eqb (status_in m) 1) (eqb s 0) t) in
    λ i. changed (facts m) (sym same i) (facts m).name (row_facts m)

-- a status that replaces the one held
status_left : (m : List ℕ) (so : Sound m) (s : ℕ) (d : List ℕ) → SizedCall (Status s d) → status_refusal m s d ≡ None → status_stays m s ≡ false → Follows m (Status s d) true (status_written m s d)
status_left m so zero d sz h n = let z = or_right (eqb (status_in m) 1) (eqb 0 0) refl in let x : true ≡ false = sym z ∙ n in absurd (let y : ◌≡◌ {A = ℕ} 0 1 = cc in omega arith)
status_left m so (suc zero) d sz h n =
    let ne = eqb-false _ _ (or_parts (eqb (status_in m) 1) (eqb 1 0) n).0 in
    let o = outcome_of (facts m) in
    let a = undescribed m so in
    let b = status-set _ a.0 1 (omega arith) in
    let said : stated true (Status 1 d) o ≡ record { code = Ok; description = [] } = replaces (status_in m) ne o _ in
    let e = b.1 ∙ (λ i. changed (a.1 i) (record { code = Ok; description = (a.1 i).description }) (a.1 i).name (a.1 i).rows) ∙ (λ i. changed (facts m) (sym said i) (facts m).name (row_facts m)) in
    head_left m (status_written m 1 d) _ _ b.0 e
status_left m so (suc (suc zero)) d sz h n =
    let ne = eqb-false _ _ (or_parts (eqb (status_in m) 1) (eqb 2 0) n).0 in
    let o = outcome_of (facts m) in
    let q = then-none (status_stays m 2) (NoStatus) (head_refusal m 1024 d) (by (status_stays m 2) (head_refusal m 1024 d) n h) in
    let t = head_tells m 1024 d q.1 in
    let a = described m so d t.0 t.1.0 t.1.1 sz.1 in
    let b = status-set _ a.0 2 (omega arith) in
    let said : stated true (Status 2 d) o ≡ record { code = Error; description = d } = replaces (status_in m) ne o _ in
    let e = b.1 ∙ (λ i. changed (a.1 i) (record { code = Error; description = (a.1 i).description }) (a.1 i).name (a.1 i).rows) ∙ (λ i. changed (facts m) (sym said i) (facts m).name (row_facts m)) in
    head_left m (status_written m 2 d) _ _ b.0 e
  where
    by : (t : Bool) (x : Option Refusal) → t ≡ false → cond t None x ≡ None → cond t (Some NoStatus) x ≡ None
    by true x f e = absurd (let y : ◌≡◌ {A = ℕ} 0 1 = cc in omega arith)
    by false x f e = e
status_left m so (suc (suc (suc s))) d sz h n = let p = else_none (leb (suc (suc (suc s))) 2) _ NoStatus h in let z = leb-true _ _ p.0 in absurd (omega arith)

-- a call whose list is full
counted_left : (m : List ℕ) (so : Sound m) (c : Call) → Follows m c false (counted m c)
counted_left m so (Set l k n v) =
    cond_both (eqb l 0) (drop_more m 64) m (λ x. Follows m (Set l k n v) false x)
    (λ _. let d = dropped m so 64 (omega arith) (omega arith) in head_left m _ (outcome_of (facts m)) (facts m).name d.0 d.1)
    (λ _. same_left m so (facts m) refl)
counted_left m so (Event t z) = let d = dropped m so 68 (omega arith) (omega arith) in head_left m _ (outcome_of (facts m)) (facts m).name d.0 d.1
counted_left m so (Link t v) = let d = dropped m so 72 (omega arith) (omega arith) in head_left m _ (outcome_of (facts m)) (facts m).name d.0 d.1
counted_left m so (Status s d) = same_left m so (facts m) refl
counted_left m so (Rename t) = same_left m so (facts m) refl

-- by the answer
abbrev after_by : List ℕ → Call → Option Refusal → Applied → List ℕ
after_by m c o a = cond (changes (answered o a)) (done m c) (cond (list_full (answered o a)) (counted m c) m)

by_answer : (m : List ℕ) (so : Sound m) (c : Call) → SizedCall c → (o : Option Refusal) → refusal m c ≡ o → Follows m c (accepted (answered o (applied m c))) (after_by m c o (applied m c))
by_answer m so c sz (Some f) e = cond_both (full_refusal f) (counted m c) m (λ x. Follows m c false x) (λ _. counted_left m so c) (λ _. same_left m so (facts m) refl)
by_answer m so (Set l k n v) sz None e =
    set_left m so l k n v (place_from l k 0 (row_facts m)) refl (set_tells m (place_from l k 0 (row_facts m)) l k n v sz.1.0 sz.1.1.0 sz.1.1.1 e)
by_answer m so (Event t z) sz None e = let p = event_tells m t z sz.0 sz.1 e in add_left m so 3 (inl refl) t _ p.0 p.1
by_answer m so (Link t v) sz None e = let p = link_tells m t v sz.0 sz.1 e in add_left m so 5 (inr refl) t _ p.0 p.1
by_answer m so (Status s d) sz None e = by (status_stays m s) refl
  where
    by : (b : Bool) → status_stays m s ≡ b → Follows m (Status s d) (accepted (answered None (cond b Unchanged Changed))) (after_by m (Status s d) None (cond b Unchanged Changed))
    by true t = same_left m so _ (stays-facts m s d t)
    by false n = status_left m so s d sz e n
by_answer m so (Rename t) sz None e =
    let p = head_tells m 255 t e in
    let r = renamed m so t p.0 p.1.0 p.1.1 sz in
    head_left m _ (outcome_of (facts m)) t r.0 r.1

pub call_left : (m : List ℕ) (so : Sound m) (c : Call) → SizedCall c → Follows m c (accepted (answer m c)) (after m c)
unfolding answer after
call_left m so c sz = by_answer m so c sz (refusal m c) refl
