-- Rows by key: in which run and which list they stand.
use Rattle.std.proofs.Common.{◌≡◌, ℕ, ◌+◌, ◌<◌, ◌≤◌, Bool, true, false, not, ◌&&◌, List, Some, None, Option, IfSome, unwrap_or, filter, refl, ap, sym, ◌∙◌, arith, ◌==◌}
use Rattle.std.specs.List.{slice_get, range_with_len}
use Rattle.std.specs.Option.{option_map}
use Rattle.std.specs.declared.ops.Range.{Range}
use Rattle.std.proofs.lemmas.Bool.{eqb-true}
use Rattle.blocks.specs.Facts.{row_fact}
use Rattle.blocks.specs.Faults.{list_in}
use Rattle.blocks.specs.Lists.{owner_list, owned_list}
use Rattle.blocks.specs.Places.{run_rows, Behind}
use Rattle.blocks.specs.Projections.{of_list}
use Rattle.blocks.specs.declared.lists.Owner.{Owner}
use Rattle.blocks.proofs.Projected.{kept_holds}
use Rattle.conversion.specs.ByKey.{has_key, is_first, last_with, is_above, key_at, IsUnder}
use Rattle.conversion.proofs.ByKeyLemmas.{LastFrom, last-none, last-hit, last-miss, last-end}

left : (x y : Bool) → (x && y) ≡ true → x ≡ true
left true y e = refl
left false y e = e

pub first_list : (b : List ℕ) (l s n i : ℕ) (o : Option ℕ) → o ≡ slice_get (filter (is_first b l s) (range_with_len s n)) i → IfSome o (λ j. list_in b j ≡ l)
unfolding is_first
first_list b l s n i None e = tt
first_list b l s n i (Some j) e = eqb-true (list_in b j) l (left (list_in b j == l) (not (is_above b l s j (key_at b j))) (kept_holds (is_first b l s) j (range_with_len s n) i e))

-- what is known before the row i, where the last row so far is `last`
module _ (b : List ℕ) (l : ℕ) (k : List ℕ) (r : Range ℕ) where
  pub record Looked (i : ℕ) (last : Option ℕ) : Type 0 where
    pub row : LastFrom b l k r.end i (option_map (row_fact b) last) ≡ last_with k (of_list l (run_rows b r))
    pub within : IfSome last (λ j. (r.start ≤ j) × (j < r.end))
    pub list : IfSome last (λ j. list_in b j ≡ l)

  pub looked_none : Looked r.start None
  looked_none = record { row = last-none b l k r.end r.start; within = tt; list = tt }

  pub looked_hit : (i : ℕ) (last : Option ℕ) → Looked i last → r.start ≤ i → i < r.end → has_key l k (row_fact b i) ≡ true → Looked (i + 1) (Some i)
  looked_hit i last t s e h = record { row = sym (last-hit b l k r.end i (option_map (row_fact b) last) e h) ∙ t.row; within = (s, e); list = eqb-true (list_in b i) l (left (list_in b i == l) _ h) }

  pub looked_miss : (i : ℕ) (last : Option ℕ) → Looked i last → i < r.end → has_key l k (row_fact b i) ≡ false → Looked (i + 1) last
  looked_miss i last t e h = record { row = sym (last-miss b l k r.end i (option_map (row_fact b) last) e h) ∙ t.row; within = t.within; list = t.list }

  pub looked_end : (i : ℕ) (last : Option ℕ) → Looked i last → r.end ≤ i → option_map (row_fact b) last ≡ last_with k (of_list l (run_rows b r))
  looked_end i last t e = sym (last-end b l k r.end i (option_map (row_fact b) last) e) ∙ t.row

-- the last row with a key, and else the first, stands below the owner of the run
pub under_run : (b : List ℕ) (o : Owner) (r : Range ℕ) (first x : ℕ) (last : Option ℕ) → Behind b (owner_list o) r → (r.start ≤ first) × (first < r.end) → list_in b first ≡ owned_list o
    → IfSome last (λ j. (r.start ≤ j) × (j < r.end)) → IfSome last (λ j. list_in b j ≡ owned_list o) → x ≡ unwrap_or last first → IsUnder b o x
under_run b o r first x None h f g p q e = let s = h.start in let w = h.within in let a = f.0 in let z = f.1 in record { head = h.row; above = omega arith; owner = h.list; within = omega arith; list = ap (list_in b) e ∙ g }
under_run b o r first x (Some j) h f g p q e = let s = h.start in let w = h.within in let a = p.0 in let z = p.1 in record { head = h.row; above = omega arith; owner = h.list; within = omega arith; list = ap (list_in b) e ∙ q }
