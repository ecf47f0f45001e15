-- Values of one kind that are refused alike are answered alike.
use Rattle.std.proofs.Common.{◌≡◌, ℕ, ◌+◌, ◌<◌, ◌≤◌, Bool, true, false, cond, ◌&&◌, ltb, leb, List, [], ◌++◌, length, replicate, Some, None, Option, sym, refl, ap, ◌∙◌, arith}
use Rattle.std.specs.Option.{option_map}
use Rattle.std.proofs.lemmas.Bool.{lt-leb, and_right, cond-false}
use Rattle.lent_bytes.specs.Memory.{written, portion}
use Rattle.lent_bytes.specs.Fields.{bytes8}
use Rattle.lent_bytes.proofs.Frames.{portion-written}
use Rattle.values.specs.declared.check.ValueFault.{ValueFault}
use Rattle.values.specs.declared.check.ValueFault.TheVariants.{Form}
use Rattle.values.specs.Faults.{datum_fault, value_fault}
use Rattle.blocks.specs.First.{or_else}
use Rattle.blocks.specs.Facts.{row_facts}
use Rattle.drafts.specs.declared.refusal.Refusal.{Refusal}
use Rattle.drafts.specs.declared.refusal.Refusal.TheVariants.{List as NoList, Owner, Value}
use Rattle.drafts.specs.Calls.{Set}
use Rattle.drafts.specs.Search.{place_from}
use Rattle.drafts.specs.Memory.{settable, unowned, key_refusal, room_of_set, refusal, answer, after}
use Rattle.drafts.proofs.Answered.{refused}

-- the refusal of a value with the fault f
abbrev unformed : List ℕ → ℕ → List ℕ → ValueFault → Option Refusal
unformed m l k f = cond (settable l) (cond (unowned m l) (Some Owner) (or_else (key_refusal k) (Some (Value f)))) (Some NoList)

refusal-unformed : (m : List ℕ) (l : ℕ) (k : List ℕ) (n : ℕ) (v : List ℕ) (f : ValueFault) → value_fault n v ≡ Some f → refusal m (Set l k n v) ≡ unformed m l k f
refusal-unformed m l k n v f e =
    ap (λ x. cond (settable l) (cond (unowned m l) (Some Owner) (or_else (key_refusal k) (or_else (option_map Value x) (room_of_set m (place_from l k 0 (row_facts m)) l (length k) (length v))))) (Some NoList)) e

some_refusal : (s u : Bool) (o : Option Refusal) (x : Refusal) → (g : Refusal) × (cond s (cond u (Some Owner) (or_else o (Some x))) (Some NoList) ≡ Some g)
some_refusal true true o x = (Owner, refl)
some_refusal true false None x = (x, refl)
some_refusal true false (Some y) x = (y, refl)
some_refusal false u o x = (NoList, refl)

pub record Alike (m : List ℕ) (l : ℕ) (k : List ℕ) (n : ℕ) (v w : List ℕ) : Type 0 where
  pub answers : answer m (Set l k n v) ≡ answer m (Set l k n w)
  pub afters : after m (Set l k n v) ≡ after m (Set l k n w)

pub alike : (m : List ℕ) (l : ℕ) (k : List ℕ) (n : ℕ) (v w : List ℕ) (f : ValueFault) → value_fault n v ≡ Some f → value_fault n w ≡ Some f → Alike m l k n v w
alike m l k n v w f a b =
    let s = some_refusal (settable l) (unowned m l) (key_refusal k) (Value f) in
    let p = refused m (Set l k n v) s.0 (sym (refusal-unformed m l k n v f a ∙ s.1)) in
    let q = refused m (Set l k n w) s.0 (sym (refusal-unformed m l k n w f b ∙ s.1)) in
    record { answers = p.answer_is ∙ sym q.answer_is; afters = p.after_is ∙ sym q.after_is }

-- a double whose text is too long has no form, as one with no bytes
long_double : (p : ℕ) (t : List ℕ) → 400 < length t → value_fault 2 (bytes8 p ++ t) ≡ Some Form
long_double p t h =
    let v = bytes8 p ++ t in
    let l : leb (length v) 408 ≡ false = lt-leb (length v) 408 (omega arith) in
    ap datum_fault (cond-false (ltb 8 (length v) && leb (length v) 408) _ _ (and_right (ltb 8 (length v)) (leb (length v) 408) l))

pub long_alike : (m : List ℕ) (l : ℕ) (k : List ℕ) (p : ℕ) (t : List ℕ) → 400 < length t → Alike m l k 2 [] (bytes8 p ++ t)
long_alike m l k p t h = alike m l k 2 [] (bytes8 p ++ t) Form refl (long_double p t h)

-- a double that fits its buffer
pub double_is : (p : ℕ) (t x b : List ℕ) (n : ℕ) → length t ≤ 400 → n ≡ 8 + length t → x ≡ written (replicate 408 0) 0 (bytes8 p ++ t) → b ≡ portion x 0 n → b ≡ bytes8 p ++ t
double_is p t x b n h e f g =
    let w = portion-written (replicate 408 0) 0 (bytes8 p ++ t) n (omega arith) (omega arith) in
    g ∙ ap (λ y. portion y 0 n) f ∙ w
