-- The rows as a list of facts, over a step.
use Rattle.std.proofs.Common.{◌≡◌, ℕ, ◌+◌, ◌<◌, ◌≤◌, List, [], ◌∷◌, ◌++◌, map, set, sym, ap, ◌∙◌, ⊎_elim, arith}
use Rattle.std.specs.List.{range_with_len}
use Rattle.std.proofs.lemmas.Bool.{cases_eq}
use Rattle.std.proofs.lemmas.List.FromFn.{length-map-range_with_len, get_or-map-range_with_len, map-range_with_len_more}
use Rattle.std.proofs.lemmas.List.{same_lists, length-set, get_or-set_same, get_or-set_other}
use Rattle.blocks.specs.Layout.{rows_in}
use Rattle.blocks.specs.Facts.{row_fact, row_facts}
use Rattle.blocks.proofs.Projected.{rows_mapped}
use Rattle.block_laws.proofs.Sound.{Sound, Step, row_step}

-- the rows up to n that both have
module _ (m m' : List ℕ) (n : ℕ) (e : (i : ℕ) → i < n → row_fact m' i ≡ row_fact m i) where
  pub fronts : map (row_fact m') (range_with_len 0 n) ≡ map (row_fact m) (range_with_len 0 n)
  fronts =
      same_lists _ _ (length-map-range_with_len (row_fact m') 0 n ∙ sym (length-map-range_with_len (row_fact m) 0 n))
      (λ k d l.
      let lt : k < n = omega (arith, length-map-range_with_len (row_fact m') 0 n) in
      get_or-map-range_with_len (row_fact m') 0 n k k d lt (omega arith) ∙ e k lt ∙ sym (get_or-map-range_with_len (row_fact m) 0 n k k d lt (omega arith)))

-- a row more
pub rows_append : (m m' : List ℕ) (u : ℕ) → Sound m → Step m m' (rows_in m) (rows_in m + 1) u → row_facts m' ≡ row_facts m ++ row_fact m' (rows_in m) ∷ []
rows_append m m' u so st =
    let r : ℕ = rows_in m in
    let e = fronts m m' r (λ i h. row_step m m' _ _ _ so st i h (λ e. omega arith)) in
    rows_mapped m' ∙ ap (λ k. map (row_fact m') (range_with_len 0 k)) st.count ∙ map-range_with_len_more (row_fact m') 0 r r (omega arith) ∙ ap (λ l. l ++ row_fact m' r ∷ []) (e ∙ sym (rows_mapped m))

-- another row in place
pub rows_replace : (m m' : List ℕ) (j u : ℕ) → Sound m → Step m m' j (rows_in m) u → j < rows_in m → row_facts m' ≡ set (row_facts m) j (row_fact m' j)
rows_replace m m' j u so st h =
    let n : ℕ = rows_in m in
    let xs = map (row_fact m) (range_with_len 0 n) in
    let e : map (row_fact m') (range_with_len 0 n) ≡ set xs j (row_fact m' j) =
    same_lists _ _ (length-map-range_with_len (row_fact m') 0 n ∙ sym (length-set xs j (row_fact m' j) ∙ length-map-range_with_len (row_fact m) 0 n))
    (λ k d l.
    let lt : k < n = omega (arith, length-map-range_with_len (row_fact m') 0 n) in
    let g = get_or-map-range_with_len (row_fact m') 0 n k k d lt (omega arith) in
    ⊎_elim
    (λ (e : k ≡ j). g ∙ ap (row_fact m') e ∙ sym (rw e (get_or-set_same xs j (row_fact m' j) d (omega (arith, length-map-range_with_len (row_fact m) 0 n)))))
    (λ (ne : k ≡ j → ⊥). g ∙ row_step m m' _ _ _ so st k lt ne ∙ sym (get_or-set_other xs j k (row_fact m' j) d ne ∙ get_or-map-range_with_len (row_fact m) 0 n k k d lt (omega arith)))
    (cases_eq k j)) in
    rows_mapped m' ∙ ap (λ k. map (row_fact m') (range_with_len 0 k)) st.count ∙ e ∙ ap (λ l. set l j (row_fact m' j)) (sym (rows_mapped m))

-- no row changes
pub rows_same : (m m' : List ℕ) (j u : ℕ) → Sound m → Step m m' j (rows_in m) u → rows_in m ≤ j → row_facts m' ≡ row_facts m
rows_same m m' j u so st h =
    rows_mapped m' ∙ ap (λ k. map (row_fact m') (range_with_len 0 k)) st.count ∙ fronts m m' (rows_in m) (λ i lt. row_step m m' _ _ _ so st i lt (λ e. omega arith)) ∙ sym (rows_mapped m)
