-- Each attribute of a lawful block stands under one event or link.
use Rattle.std.proofs.Common.{◌≡◌, ℕ, zero, suc, ◌+◌, ◌-◌, ◌<◌, Bool, true, false, cond, eqb, List, [], ◌∷◌, ◌++◌, sym, refl, ap, ◌∙◌, arith, below_more}
use Rattle.std.specs.List.{flat_map}
use Rattle.std.proofs.lemmas.Bool.{cond-false, eqb-true, eqb-false, ne_eqb}
use Rattle.blocks.specs.Layout.{rows_in}
use Rattle.blocks.specs.Faults.{list_in}
use Rattle.blocks.specs.Facts.{RowFact, row_fact, row_facts}
use Rattle.blocks.specs.Places.{rows_from}
use Rattle.blocks.specs.Projections.{Owned, in_list, of_list, up_to, owning}
use Rattle.block_laws.specs.Covered.{Covers, OwnedExactly}
use Rattle.blocks.proofs.Projected.{whole, heads}

abbrev under : List Owned → List RowFact
under os = flat_map (λ (o : Owned). o.attributes) os

-- the rows of the list a are those above the first of h, and those under each of h
shared-cond : (b : Bool) (r : RowFact) (xs ys us : List RowFact) → xs ≡ us ++ ys → cond b (r ∷ xs) xs ≡ cond b (r ∷ us) us ++ ys
shared-cond true r xs ys us e = ap (λ zs. r ∷ zs) e
shared-cond false r xs ys us e = e

shared_step : (t : Bool) (a : ℕ) (r : RowFact) (xs ups : List RowFact) (os : List Owned) → (t ≡ true → in_list a r ≡ false) → xs ≡ of_list a ups ++ under os → cond (in_list a r) (r ∷ xs) xs ≡ of_list a (cond t [] (r ∷ ups)) ++ under (cond t (record { head = r; attributes = of_list a ups } ∷ os) os)
unfolding of_list
shared_step true a r xs ups os p e = cond-false (in_list a r) _ _ (p refl) ∙ e
shared_step false a r xs ups os p e = shared-cond (in_list a r) r xs (under os) (of_list a ups) e

module _ (h a : ℕ) (apart : (l : ℕ) → eqb l h ≡ true → eqb l a ≡ false) where
  shared : (rows : List RowFact) → of_list a rows ≡ of_list a (up_to h rows) ++ under (owning h a rows)
  unfolding of_list up_to owning
  shared [] = refl
  shared (r ∷ rs) = shared_step (in_list h r) a r (of_list a rs) (up_to h rs) (owning h a rs) (apart r.list) (shared rs)

-- where each row of a has one of h above it, none of a stands above the first of h
none-step : (t : Bool) (a : ℕ) (r : RowFact) (ups : List RowFact) → in_list a r ≡ false → (t ≡ false → of_list a ups ≡ []) → of_list a (cond t [] (r ∷ ups)) ≡ []
unfolding of_list
none-step true a r ups p q = refl
none-step false a r ups p q = cond-false (in_list a r) _ _ p ∙ q refl

module _ (m : List ℕ) (h a : ℕ) where
  none_above : (n i : ℕ) → ((k : ℕ) → k < i + n → list_in m k ≡ a → (j : ℕ) × (j < k) × (list_in m j ≡ h)) → ((j : ℕ) → j < i → list_in m j ≡ h → ⊥) → of_list a (up_to h (rows_from m i n)) ≡ []
  unfolding of_list up_to rows_from
  none_above zero i f g = refl
  none_above (suc n) i f g =
      none-step (in_list h (row_fact m i)) a (row_fact m i) (up_to h (rows_from m (i + 1) n))
      (ne_eqb (list_in m i) a (λ e. let p = f i (omega arith) e in g p.0 p.1 p.2))
      (λ t. none_above n (i + 1) (λ k l. f k (omega arith)) (below_more _ _ g (eqb-false (list_in m i) h t)))

  pub covers : ((l : ℕ) → eqb l h ≡ true → eqb l a ≡ false) → ((k : ℕ) → k < rows_in m → list_in m k ≡ a → (j : ℕ) × (j < k) × (list_in m j ≡ h)) → Covers h a (row_facts m)
  covers apart f =
      let n = none_above (rows_in m - 0) 0 (λ k l. f k (omega arith)) (λ j l. absurd (omega arith)) in
      let w = ap (λ rs. of_list a (up_to h rs)) (whole m) in
      let e = shared h a apart (row_facts m) ∙ ap (λ us. us ++ under (owning h a (row_facts m))) (sym w ∙ n) in
      record { heads = heads h a (row_facts m); attributes = sym e }

apart_34 : (l : ℕ) → eqb l 3 ≡ true → eqb l 4 ≡ false
apart_34 l e = let p = eqb-true l 3 e in ne_eqb l 4 (λ q. omega arith)

apart_56 : (l : ℕ) → eqb l 5 ≡ true → eqb l 6 ≡ false
apart_56 l e = let p = eqb-true l 5 e in ne_eqb l 6 (λ q. omega arith)

pub owned_exactly_lem : OwnedExactly
owned_exactly_lem m lawful =
    (covers m 3 4 apart_34 (λ k l e. (lawful.rows k l).event_above e), covers m 5 6 apart_56 (λ k l e. (lawful.rows k l).link_above e))
