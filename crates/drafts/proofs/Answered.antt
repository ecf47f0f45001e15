-- What a call answers and leaves, by its refusal.
use Rattle.std.proofs.Common.{◌≡◌, ℕ, ◌<◌, ◌≤◌, Bool, true, false, cond, ◌||◌, eqb, List, Some, None, Ok, Err, Option, sym, refl, ◌∙◌, arith}
use Rattle.std.proofs.lemmas.Bool.Decides.{nat_tests}
use Rattle.std.proofs.lemmas.Bool.{le-leb, lt-leb, eqb-true, or_right}
use Rattle.blocks.specs.declared.span_kind.StatusCode.TheVariants.{Unset as StatusUnset, Ok as StatusOk, Error as StatusError}
use Rattle.blocks.specs.Facts.{status_of}
use Rattle.blocks.specs.Layout.{status_in}
use Rattle.blocks.specs.First.{or_else}
use Rattle.drafts.specs.declared.refusal.Applied.{Applied}
use Rattle.drafts.specs.declared.refusal.Applied.TheVariants.{Changed, Unchanged}
use Rattle.drafts.specs.declared.refusal.Refusal.{Refusal}
use Rattle.drafts.specs.declared.refusal.Refusal.TheVariants.{List as NoList, Owner, Status as NoStatus}
use Rattle.drafts.specs.Calls.{Call, Set, Status}
use Rattle.drafts.specs.Refused.{accepted, full_refusal}
use Rattle.drafts.specs.Writes.{status_written}
use Rattle.drafts.specs.Memory.{settable, unowned, head_refusal, refusal, applied, answered, answer, done, counted, after}
use Rattle.drafts.specs.Code.{content_refusal, set_chain}

-- an answer, and what is left with it
pub record Refuses (m : List ℕ) (c : Call) (f : Refusal) : Type 0 where
  pub answer_is : answer m c ≡ Err f
  pub after_is : after m c ≡ cond (full_refusal f) (counted m c) m

pub record Changes (m : List ℕ) (c : Call) : Type 0 where
  pub answer_is : answer m c ≡ Ok Changed
  pub after_is : after m c ≡ done m c

pub record Stays (m : List ℕ) (c : Call) : Type 0 where
  pub answer_is : answer m c ≡ Ok Unchanged
  pub after_is : after m c ≡ m

answer_at : (m : List ℕ) (c : Call) (o : Option Refusal) (a : Applied) → refusal m c ≡ o → applied m c ≡ a → answer m c ≡ answered o a
unfolding answer
answer_at m c o a e f = cc

refused-at : (m : List ℕ) (c : Call) (f : Refusal) → refusal m c ≡ Some f → answer m c ≡ Err f
refused-at m c f e = answer_at m c (Some f) (applied m c) e refl

pub refused : (m : List ℕ) (c : Call) (f : Refusal) → Some f ≡ refusal m c → Refuses m c f
unfolding after
refused m c f e = let a = refused-at m c f (sym e) in record { answer_is = a; after_is = rw a }

pub changed : (m : List ℕ) (c : Call) → None ≡ refusal m c → applied m c ≡ Changed → Changes m c
unfolding after
changed m c e f = let a = answer_at m c None Changed (sym e) f in record { answer_is = a; after_is = rw a }

pub stays : (m : List ℕ) (c : Call) → None ≡ refusal m c → applied m c ≡ Unchanged → Stays m c
unfolding after
stays m c e f = let a = answer_at m c None Unchanged (sym e) f in record { answer_is = a; after_is = rw a }

-- the refusals of an attribute, one check after another
chain : (s u : Bool) (x : Option Refusal) → or_else (cond s None (Some NoList)) (or_else (cond u (Some Owner) None) x) ≡ cond s (cond u (Some Owner) x) (Some NoList)
chain true true x = refl
chain true false x = refl
chain false u x = refl

set-chain : (m : List ℕ) (l : ℕ) (k : List ℕ) (n : ℕ) (v : List ℕ) → set_chain m l k n v ≡ refusal m (Set l k n v)
set-chain m l k n v = chain (settable l) (unowned m l) (content_refusal m l k n v)

pub refused-set : (m : List ℕ) (l : ℕ) (k : List ℕ) (n : ℕ) (v : List ℕ) (f : Refusal) → Some f ≡ set_chain m l k n v → Refuses m (Set l k n v) f
refused-set m l k n v f e = refused m (Set l k n v) f (e ∙ set-chain m l k n v)

pub changed-set : (m : List ℕ) (l : ℕ) (k : List ℕ) (n : ℕ) (v : List ℕ) → None ≡ set_chain m l k n v → Changes m (Set l k n v)
changed-set m l k n v e = changed m (Set l k n v) (e ∙ set-chain m l k n v) refl

-- where nothing is counted
same-both : {X : Type 0} (b : Bool) (x : X) → cond b x x ≡ x
same-both true x = refl
same-both false x = refl

-- statuses by their numbers
ok_is : (n : ℕ) → status_of n ≡ StatusOk → eqb n 1 ≡ true
ok_is n e = grind (arith, nat_tests)

ok-not : (n : ℕ) → (status_of n ≡ StatusOk → ⊥) → eqb n 1 ≡ false
ok-not n e = grind (arith, nat_tests)

unset_is : (n : ℕ) → n ≤ 2 → status_of n ≡ StatusUnset → eqb n 0 ≡ true
unset_is n le e = grind (arith, nat_tests)

error_is : (n : ℕ) → status_of n ≡ StatusError → n ≡ 2
error_is n e = grind (arith, nat_tests)

pub stays-ok : (m : List ℕ) (s : ℕ) (d : List ℕ) → s ≤ 2 → status_of (status_in m) ≡ StatusOk → Stays m (Status s d)
stays-ok m s d le e =
    let h = ok_is (status_in m) e in
    let l = le-leb s 2 le in
    stays m (Status s d) (rw (l, h)) (rw h)

pub stays_unset : (m : List ℕ) (s : ℕ) (d : List ℕ) → s ≤ 2 → status_of s ≡ StatusUnset → Stays m (Status s d)
stays_unset m s d le e =
    let h : (eqb (status_in m) 1 || eqb s 0) ≡ true = or_right (eqb (status_in m) 1) (eqb s 0) (unset_is s le e) in
    let l = le-leb s 2 le in
    stays m (Status s d) (rw (l, h)) (rw h)

pub becomes_ok : (m : List ℕ) (s : ℕ) (d : List ℕ) → (status_of (status_in m) ≡ StatusOk → ⊥) → status_of s ≡ StatusOk → (answer m (Status s d) ≡ Ok Changed) × (after m (Status s d) ≡ status_written m 1 d)
becomes_ok m s d n e =
    let h = ok-not (status_in m) n in
    let z : s ≡ 1 = eqb-true s 1 (ok_is s e) in
    let p = changed m (Status 1 d) (rw h) (rw h) in
    rw z (p.answer_is, p.after_is)

error_answers : (m : List ℕ) (d : List ℕ) → eqb (status_in m) 1 ≡ false → answer m (Status 2 d) ≡ answered (head_refusal m 1024 d) Changed
unfolding answer
error_answers m d h = rw h

error_leaves : (m : List ℕ) (d : List ℕ) (o : Option Refusal) → answer m (Status 2 d) ≡ answered o Changed → after m (Status 2 d) ≡ cond (accepted (answer m (Status 2 d))) (status_written m 2 d) m
unfolding after
error_leaves m d None e = rw e
error_leaves m d (Some f) e = rw e (same-both (full_refusal f) m)

pub becomes_error : (m : List ℕ) (s : ℕ) (d : List ℕ) → (status_of (status_in m) ≡ StatusOk → ⊥) → status_of s ≡ StatusError
    → (answer m (Status s d) ≡ answered (head_refusal m 1024 d) Changed) × (after m (Status s d) ≡ cond (accepted (answer m (Status s d))) (status_written m 2 d) m)
becomes_error m s d n e =
    let a = error_answers m d (ok-not (status_in m) n) in
    let z : s ≡ 2 = error_is s e in
    rw z (a, error_leaves m d (head_refusal m 1024 d) a)

pub refused-status : (m : List ℕ) (s : ℕ) (d : List ℕ) → 2 < s → Refuses m (Status s d) NoStatus
refused-status m s d lt = let l = lt-leb s 2 lt in refused m (Status s d) NoStatus (rw l)
