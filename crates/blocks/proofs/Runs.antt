-- Loops over rows.
use Rattle.std.proofs.Common.{◌≡◌, ℕ, zero, suc, ◌+◌, ◌-◌, ◌<◌, ◌≤◌, Bool, true, false, cond, List, [], ◌∷◌, length, get_or, is_some, Some, None, Decides, Option, sym, refl, ap, ◌∙◌, subst, ⊎_elim, MatchBool, arith}
use Rattle.std.specs.List.{range_with_len, HoldsAt, AllWithin}
use Rattle.std.proofs.lemmas.Bool.{false≢true, cases_Bool}
use Rattle.std.proofs.lemmas.List.FromFn.{length-range_with_len, get_or-range_with_len}
use Rattle.blocks.specs.First.{or_else, first_from}
use Rattle.std.proofs.lemmas.Bool.Decides.{nat_tests, Decides-below_or}
use Rattle.blocks.specs.declared.lists.List.{List as ListCase}
use Rattle.blocks.specs.declared.lists.List.TheVariants.{Span, Resource, Scope, Event, EventAttribute, Link, LinkAttribute}
use Rattle.blocks.specs.Lists.{list_number}
use Rattle.blocks.specs.Layout.{Row}
use Rattle.blocks.specs.Faults.{list_in, resource_key, said, above, aboves, counted_all, list_fault, list_fault_by, FewRows, content_fault, row_fault}

-- a resource key is said where a row above has it
said_by : (m k : List ℕ) (i : ℕ) → Decides (said m k i) ((j : ℕ) × (j < i) × (resource_key m k j ≡ true))
unfolding said
said_by m k i = Decides-below_or (resource_key m k) (λ j. resource_key m k j ≡ true) (said m k) (λ j. (λ e. e, λ e. e)) refl (λ n. refl) i

has_key : (m k : List ℕ) (i j : ℕ) (b : Bool) → j < i → resource_key m k (get_or (range_with_len 0 i) j 0) ≡ b → resource_key m k j ≡ b
has_key m k i j b lt e = let z : 0 + j ≡ j = omega arith in subst (λ x. resource_key m k x ≡ b) (get_or-range_with_len 0 i j 0 lt ∙ z) e

pub said_any : (m k : List ℕ) (i : ℕ) (r : Bool) → MatchBool r ((j : ℕ) × (j < length (range_with_len 0 i)) × HoldsAt (λ x. resource_key m k x ≡ true) (range_with_len 0 i) j) (AllWithin (λ x. resource_key m k x ≡ false) (range_with_len 0 i) 0 (length (range_with_len 0 i))) → r ≡ said m k i
said_any m k i true h = let n = length-range_with_len 0 i in let lt = h.1 in let a : h.0 < i = omega arith in sym ((said_by m k i).1 (h.0, a, has_key m k i h.0 true a (h.2 0)))
said_any m k i false h =
    ⊎_elim
    (λ t.
    let q = (said_by m k i).0 t in
    let n = length-range_with_len 0 i in
    let lt = q.1 in
    absurd (false≢true (sym (has_key m k i q.0 false q.1 (h q.0 0 (omega arith) (omega arith))) ∙ q.2)))
    (λ f. sym f)
    (cases_Bool (said m k i))

hit : {E : Type 0} (a b : Option E) → is_some a ≡ true → or_else a b ≡ a
hit None b e = absurd (false≢true e)
hit (Some x) b e = refl

module _ {E : Type 0} (f : ℕ → Option E) (i n : ℕ) where
  first_step : i < n → first_from f i (n - i) ≡ or_else (f i) (first_from f (i + 1) (n - (i + 1)))
  unfolding first_from
  first_step h = let e : n - i ≡ suc (n - (i + 1)) = omega arith in let g : suc i ≡ i + 1 = omega arith in rw (e, ← g)

  pub first_more : i < n → f i ≡ None → first_from f i (n - i) ≡ first_from f (i + 1) (n - (i + 1))
  first_more h e = first_step h ∙ ap (λ o. or_else o (first_from f (i + 1) (n - (i + 1)))) e

  pub first_hit : i < n → is_some (f i) ≡ true → first_from f i (n - i) ≡ f i
  first_hit h e = first_step h ∙ hit (f i) _ e

  pub first_none : n ≤ i → first_from f i (n - i) ≡ None
  unfolding first_from
  first_none h = let e : n - i ≡ 0 = omega arith in rw e

-- for `search (rules, firsts)`
pub ruleset firsts = (first_more, first_hit, first_none)

-- the counts of one more row
pub aboves-next : (m : List ℕ) (i : ℕ) → aboves m (i + 1) ≡ counted_all (aboves m i) (list_in m i)
unfolding above
aboves-next m i = let e : i + 1 ≡ suc i = omega arith in rw e

pub counts_next : (m n c : List ℕ) (i k : ℕ) → n ≡ counted_all c k → c ≡ aboves m i → k ≡ list_in m i → n ≡ aboves m (i + 1)
counts_next m n c i k e f g = e ∙ ap (λ x. counted_all x k) f ∙ ap (counted_all (aboves m i)) g ∙ sym (aboves-next m i)

pub aboves-none : (m : List ℕ) → aboves m 0 ≡ 0 ∷ 0 ∷ 0 ∷ 0 ∷ 0 ∷ 0 ∷ 0 ∷ []
unfolding above
aboves-none m = refl

-- the list of a row, from its number
pub list-number : (t : Bool) (x n : ℕ) → Some x ≡ cond t (Some n) None → x ≡ n
list-number true x n e = cc
list-number false x n e = let z : ◌≡◌ {A = ℕ} 0 1 = cc in absurd (omega arith)

pub list_same : (m n : List ℕ) (i : ℕ) (l : ListCase) → n ≡ aboves m i → list_fault_by n (list_number l) ≡ list_fault m i (list_number l)
list_same m n i Span e = rw e
list_same m n i Resource e = rw e
list_same m n i Scope e = rw e
list_same m n i Event e = rw e
list_same m n i EventAttribute e = rw e
list_same m n i Link e = rw e
list_same m n i LinkAttribute e = rw e

-- a row whose list passes has the faults of its content
pub row_passes : (m : List ℕ) (i k l : ℕ) (r s : Row) → k ≡ l → r ≡ s → list_fault m i k ≡ false → row_fault m i l s ≡ content_fault m i k r
row_passes m i k l r s e f h = rw (← e, ← f, h)

-- counts stay small
above_le : (m : List ℕ) (r i : ℕ) → above m r i ≤ i
unfolding above
above_le m r zero = omega arith
above_le m r (suc i) = let h = above_le m r i in grind (arith, nat_tests)

few : (m : List ℕ) (i r : ℕ) → i < 65536 → get_or (aboves m i) r 0 < 65536
few m i zero h = let a = above_le m 0 i in omega arith
few m i (suc zero) h = let a = above_le m 1 i in omega arith
few m i (suc (suc zero)) h = let a = above_le m 2 i in omega arith
few m i (suc (suc (suc zero))) h = let a = above_le m 3 i in omega arith
few m i (suc (suc (suc (suc zero)))) h = let a = above_le m 4 i in omega arith
few m i (suc (suc (suc (suc (suc zero))))) h = let a = above_le m 5 i in omega arith
few m i (suc (suc (suc (suc (suc (suc zero)))))) h = let a = above_le m 6 i in omega arith
few m i (suc (suc (suc (suc (suc (suc (suc r))))))) h = omega arith

pub few-rows : (m n : List ℕ) (i : ℕ) → n ≡ aboves m i → i < 65536 → FewRows n
few-rows m n i e h r = rw e (few m i r h)
