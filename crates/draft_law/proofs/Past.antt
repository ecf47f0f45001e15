-- Calls one after another.
use Rattle.std.proofs.Common.{◌≡◌, ℕ, ◌+◌, Bool, true, false, List, [], ◌∷◌, ◌++◌, sym, refl, ap, ◌∙◌, arith}
use Rattle.keyed.specs.Keyed.{insert, inserts}
use Rattle.blocks.specs.Facts.{Facts, RowFact, facts, row_facts}
use Rattle.drafts.specs.Calls.{Call, Set, Event, Link, Status, Rename, SizedCalls}
use Rattle.drafts.specs.Refused.{accepted}
use Rattle.drafts.specs.Held.{Id, Content, same_id, id_of, attribute_content, event_content, link_content, inserted, made, passed}
use Rattle.drafts.specs.Search.{count}
use Rattle.drafts.specs.Memory.{answer, after, past, answers}
use Rattle.block_laws.proofs.Sound.{Sound}
use Rattle.draft_law.proofs.Tagged.{put, tagged, tagged-put}
use Rattle.draft_law.proofs.Follow.{step_rows, step_facts, call_left}

inserts_append : (m ps qs : List (Id × Content)) → inserts same_id m (ps ++ qs) ≡ inserts same_id (inserts same_id m ps) qs
inserts_append m [] qs = refl
inserts_append m (p ∷ ps) qs = inserts_append (insert same_id m p.0 p.1) ps qs

put_is : (l : ℕ) (k : List ℕ) (c : Content) (rs : List RowFact) → tagged 0 0 (put l k c rs) ≡ insert same_id (tagged 0 0 rs) (id_of l k (count 3 rs) (count 5 rs)) c
put_is l k c rs =
    let y : 0 + count 3 rs ≡ count 3 rs = omega arith in
    let z : 0 + count 5 rs ≡ count 5 rs = omega arith in
    tagged-put l k c 0 0 rs ∙ (λ i. insert same_id (tagged 0 0 rs) (id_of l k (y i) (z i)) c)

tagged-step : (b : Bool) (c : Call) (rs : List RowFact) → tagged 0 0 (step_rows b c rs) ≡ inserts same_id (tagged 0 0 rs) (inserted b (count 3 rs) (count 5 rs) c)
tagged-step true (Set l k n v) rs = put_is l k (attribute_content n v) rs
tagged-step true (Event t z) rs = put_is 3 t (event_content z) rs
tagged-step true (Link t v) rs = put_is 5 t (link_content v) rs
tagged-step true (Status s d) rs = refl
tagged-step true (Rename t) rs = refl
tagged-step false c rs = refl

-- the rows under their identities are what was said, inserted in turn
pub tagged-past : (cs : List Call) (m : List ℕ) → Sound m → SizedCalls cs
    → tagged 0 0 (row_facts (past m cs)) ≡ inserts same_id (tagged 0 0 (row_facts m)) (made (count 3 (row_facts m)) (count 5 (row_facts m)) cs (answers m cs))
tagged-past [] m so sz = refl
tagged-past (c ∷ cs) m so sz =
    let left = call_left m so c sz.0 in
    let b = accepted (answer m c) in
    let ih = tagged-past cs (after m c) left.sound sz.1 in
    let rows_are = ap (λ (f : Facts). f.rows) left.facts_are in
    let r = ap (λ x. tagged 0 0 x) rows_are ∙ tagged-step b c (row_facts m) in
    let n = ap (count 3) rows_are ∙ left.events_are in
    let o = ap (count 5) rows_are ∙ left.links_are in
    ih ∙ (λ i. inserts same_id (r i) (made (n i) (o i) cs (answers (after m c) cs))) ∙ sym (inserts_append (tagged 0 0 (row_facts m)) (inserted b (count 3 (row_facts m)) (count 5 (row_facts m)) c) _)

pub sound-past : (cs : List Call) (m : List ℕ) → Sound m → SizedCalls cs → Sound (past m cs)
sound-past [] m so sz = so
sound-past (c ∷ cs) m so sz = sound-past cs (after m c) (call_left m so c sz.0).sound sz.1

-- a part of the facts that goes by one call after another
pub part_past : {X : Type 0} (F : Facts → X) (g : Bool → Call → X → X) → ((b : Bool) (c : Call) (f : Facts) → F (step_facts b c f) ≡ g b c (F f)) → (cs : List Call) (m : List ℕ) → Sound m → SizedCalls cs
    → F (facts (past m cs)) ≡ passed g (F (facts m)) cs (answers m cs)
part_past F g h [] m so sz = refl
part_past F g h (c ∷ cs) m so sz =
    let left = call_left m so c sz.0 in
    part_past F g h cs (after m c) left.sound sz.1 ∙ ap (λ x. passed g x cs (answers (after m c) cs)) (ap F left.facts_are ∙ h _ c (facts m))

-- a part that no call changes
pub fixed-past : {X : Type 0} (F : Facts → X) → ((b : Bool) (c : Call) (f : Facts) → F (step_facts b c f) ≡ F f) → (cs : List Call) (m : List ℕ) → Sound m → SizedCalls cs → F (facts (past m cs)) ≡ F (facts m)
fixed-past F h [] m so sz = refl
fixed-past F h (c ∷ cs) m so sz =
    let left = call_left m so c sz.0 in
    fixed-past F h cs (after m c) left.sound sz.1 ∙ ap F left.facts_are ∙ h _ c (facts m)
