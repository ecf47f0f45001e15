-- Entries under keys that differ: nothing is counted apart under a key that is not left out exactly where they are the same in
-- some order.
use Rattle.std.proofs.Common.{◌≡◌, ℕ, ◌<◌, Bool, true, false, ◌&&◌, List, length, Some, None, Option, option_map, bytes_eq, IsPermutation, Decides, sym, refl, ap, ◌∙◌, subst, ⊎_elim, slice_get}
use Rattle.std.specs.Bool.{beq}
use Rattle.std.specs.List.{IsDistinct}
use Rattle.std.specs.Map.{keys_of, lookup}
use Rattle.std.specs.Cmp.Lexicographic.{nat_list_eq_equiv}
use Rattle.std.proofs.lemmas.Bool.{cases_Bool, both_ways, cond-false, and_right, and_left}
use Rattle.std.proofs.lemmas.Option.{slice_get_within}
use Rattle.std.proofs.lemmas.List.Sorted.{Contains-permutation, IsPermutation-sym}
use Rattle.std.proofs.lemmas.Map.Entries.{place_from_lookup, lookup_from_place}
use Rattle.std.proofs.lemmas.Map.Views.{Contains-from_lookup, lookup-from_Contains}
use Rattle.conversion_law.specs.Agreement.{left_out}
use Rattle.conversion_law.proofs.Shuffled.{shuffled}
use Rattle.conversion_law.proofs.Tables.{same-bytes}
use Rattle.conversion_law.proofs.Permuted.{outside, distinct_kept, lookup-outside, on-false}
use Rattle.conversion_sides.specs.declared.standing.Standing.{Standing}
use Rattle.conversion_sides.specs.declared.standing.Standing.TheVariants.{Same, Differs, OnlyLeft}
use Rattle.conversion_sides.specs.Standings.{sameness, stands, is_standing}
use Rattle.conversion_sides.specs.Entries.{beside, has_left_out}

-- a counted test that fails, of what is not left out
kept-fails : (x out : Bool) → (x && beq out false) ≡ false → out ≡ false → x ≡ false
kept-fails true true h e = absurd (both_ways true e refl)
kept-fails true false h e = h
kept-fails false out h e = refl

abbrev Distinct : {W : Type 0} → List (List ℕ × W) → Type 0
Distinct es = IsDistinct bytes_eq (keys_of es)

module _ {W : Type 0} where
  lookup-permuted : (es fs : List (List ℕ × W)) → Distinct es → Distinct fs → IsPermutation es fs → (q : List ℕ) → lookup (bytes_eq q) es ≡ lookup (bytes_eq q) fs
  lookup-permuted es fs d e p q = by (lookup (bytes_eq q) es) (lookup (bytes_eq q) fs) refl refl
    where
      over : (v : W) → lookup (bytes_eq q) es ≡ Some v → lookup (bytes_eq q) fs ≡ Some v
      over v h = lookup-from_Contains nat_list_eq_equiv q v fs e (Contains-permutation es fs (q, v) p (Contains-from_lookup same-bytes q v es h))

      back : (v : W) → lookup (bytes_eq q) fs ≡ Some v → lookup (bytes_eq q) es ≡ Some v
      back v h = lookup-from_Contains nat_list_eq_equiv q v es d (Contains-permutation fs es (q, v) (IsPermutation-sym es fs p) (Contains-from_lookup same-bytes q v fs h))

      by : (x y : Option W) → lookup (bytes_eq q) es ≡ x → lookup (bytes_eq q) fs ≡ y → lookup (bytes_eq q) es ≡ lookup (bytes_eq q) fs
      by (Some v) y h k = h ∙ sym (over v h)
      by None (Some w) h k = back w k ∙ sym k
      by None None h k = h ∙ sym k

  module _ (same : W → W → Bool) (exact : (x y : W) → Decides (same x y) (x ≡ y)) where
    -- whether the i-th entry is counted
    abbrev so : List (List ℕ × W) → (List ℕ → Option W) → Standing → ℕ → Bool
    so es look st i = is_standing (beside same look (slice_get es i)) st && beq (has_left_out (option_map (λ p. p.0) (slice_get es i))) false

    abbrev at_place : (List ℕ → Option W) → Standing → Option (List ℕ × W) → Bool
    at_place look st o = is_standing (beside same look o) st && beq (has_left_out (option_map (λ p. p.0) o)) false

    module _ (es fs : List (List ℕ × W)) (le lf : List ℕ → Option W) (ee : (q : List ℕ) → lookup (bytes_eq q) es ≡ le q) (ff : (q : List ℕ) → lookup (bytes_eq q) fs ≡ lf q) where
      -- of an entry that is found under q and not left out, a count that misses it
      missed : (look : List ℕ → Option W) (gs : List (List ℕ × W)) (q : List ℕ) (v : W) (st : Standing) → left_out q ≡ false → lookup (bytes_eq q) gs ≡ Some v → ((i : ℕ) → i < length gs → so gs look st i ≡ false) → is_standing (stands same (Some v) (look q)) st ≡ false
      missed look gs q v st n h none =
          let p = place_from_lookup (bytes_eq q) gs v h in
          let k : q ≡ p.1 = same-bytes q p.1 p.3 in
          let at = subst (λ o. at_place look st o ≡ false) p.2 (none p.0 (slice_get_within gs p.0 (p.1, v) p.2)) in
          subst (λ z. is_standing (stands same (Some v) (look z)) st ≡ false) (sym k) (kept-fails _ (left_out p.1) at (ap left_out (sym k) ∙ n))

      both-same : (v w : W) → is_standing (sameness (same v w)) Differs ≡ false → v ≡ w
      both-same v w h = ⊎_elim (λ y. (exact v w).0 y) (λ n. absurd (both_ways _ h (ap (λ b. is_standing (sameness b) Differs) n))) (cases_Bool (same v w))

      pub alike-from : ((i : ℕ) → i < length es → so es lf Differs i ≡ false) → ((i : ℕ) → i < length es → so es lf OnlyLeft i ≡ false) → ((i : ℕ) → i < length fs → so fs le OnlyLeft i ≡ false) → (q : List ℕ) → left_out q ≡ false → le q ≡ lf q
      alike-from a b c q n = by (le q) (lf q) refl refl
        where
          by : (x y : Option W) → le q ≡ x → lf q ≡ y → le q ≡ lf q
          by None None h k = h ∙ sym k
          by (Some v) None h k =
              let m = missed lf es q v OnlyLeft n (ee q ∙ h) b in
              absurd (both_ways _ m (ap (λ o. is_standing (stands same (Some v) o) OnlyLeft) k))
          by None (Some w) h k =
              let m = missed le fs q w OnlyLeft n (ff q ∙ k) c in
              absurd (both_ways _ m (ap (λ o. is_standing (stands same (Some w) o) OnlyLeft) h))
          by (Some v) (Some w) h k =
              let m = missed lf es q v Differs n (ee q ∙ h) a in
              h ∙ ap Some (both-same v w (ap (λ o. is_standing (stands same (Some v) o) Differs) (sym k) ∙ m)) ∙ sym k

      -- and where all is alike nothing is counted that is not the same
      pub none-from : Distinct es → ((q : List ℕ) → left_out q ≡ false → le q ≡ lf q) → (st : Standing) → is_standing Same st ≡ false → (i : ℕ) → so es lf st i ≡ false
      none-from d alike st other i = by (slice_get es i) refl
        where
          by : (o : Option (List ℕ × W)) → slice_get es i ≡ o → so es lf st i ≡ false
          by None h = ap (at_place lf st) h ∙ and_left (is_standing Same st) (beq false false) other
          by (Some p) h =
              ap (at_place lf st) h
              ∙ ⊎_elim
              (λ y. and_right (is_standing (stands same (Some p.1) (lf p.0)) st) (beq (left_out p.0) false) (ap (λ b. beq b false) y))
              (λ n.
              let found : lf p.0 ≡ Some p.1 = sym (alike p.0 n) ∙ sym (ee p.0) ∙ lookup_from_place nat_list_eq_equiv es i p.0 p.1 d h in
              and_left _ (beq (left_out p.0) false) (ap (λ o. is_standing (stands same (Some p.1) o) st) found ∙ ap (λ b. is_standing (sameness b) st) ((exact p.1 p.1).1 refl) ∙ other))
              (cases_Bool (left_out p.0))

      pub permuted-from : Distinct es → Distinct fs → ((q : List ℕ) → left_out q ≡ false → le q ≡ lf q) → IsPermutation (outside left_out es) (outside left_out fs)
      permuted-from d e alike =
          shuffled nat_list_eq_equiv same-bytes (outside left_out es) (outside left_out fs) (distinct_kept bytes_eq left_out es d) (distinct_kept bytes_eq left_out fs e)
          (λ q. lookup-outside left_out q es ∙ on-false (left_out q) _ _ (λ n. ee q ∙ alike q n ∙ sym (ff q)) ∙ sym (lookup-outside left_out q fs))

      pub alike-permuted : Distinct es → Distinct fs → IsPermutation (outside left_out es) (outside left_out fs) → (q : List ℕ) → left_out q ≡ false → le q ≡ lf q
      alike-permuted d e p q n =
          sym (ee q)
          ∙ sym (cond-false (left_out q) None (lookup (bytes_eq q) es) n)
          ∙ sym (lookup-outside left_out q es)
          ∙ lookup-permuted (outside left_out es) (outside left_out fs) (distinct_kept bytes_eq left_out es d) (distinct_kept bytes_eq left_out fs e) p q
          ∙ lookup-outside left_out q fs
          ∙ cond-false (left_out q) None (lookup (bytes_eq q) fs) n
          ∙ ff q
