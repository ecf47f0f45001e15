-- Lists beside each other, place by place: nothing is counted apart exactly where they show the same.
use Rattle.std.proofs.Common.{◌≡◌, ℕ, suc, ◌<◌, Bool, true, false, ◌&&◌, List, [], ◌∷◌, length, map, filter, Some, None, Option, option_map, unwrap_or, is_some, slice_get, Decides, sym, refl, ap, ◌∙◌, arith, ◌==◌, eqb, true≢false}
use mathlib.Core.List.{map-id}
use Rattle.std.specs.List.{range_with_len, list_all}
use Rattle.std.specs.Option.{option_flatten}
use Rattle.std.proofs.lemmas.Bool.{false≢true, and_parts, and_from, eqb-true, eq-eqb}
use Rattle.std.proofs.lemmas.Bool.Decides.{Decides-and, Decides-like}
use Rattle.std.proofs.lemmas.List.{length-map}
use Rattle.std.proofs.lemmas.Option.{slice_get-map}
use Rattle.conversion_sides.specs.declared.standing.Standing.{Standing}
use Rattle.conversion_sides.specs.declared.standing.Standing.TheVariants.{Same, Differs, OnlyLeft, OnlyRight}
use Rattle.conversion_sides.specs.declared.entries.Apart.{Apart}
use Rattle.conversion_sides.specs.Standings.{sameness, stands, standing_and, standing_number, is_standing}
use Rattle.conversion_sides.specs.Compared.{none_apart}
use Rattle.conversion_sides.proofs.Counts.{all-below, all-passed, none-below, none-counted, none_apart-Decides}

pub sameness-true : (b : Bool) → is_standing (sameness b) Differs ≡ false → b ≡ true
sameness-true true h = refl
sameness-true false h = absurd (true≢false h)

pub sameness-not : (b : Bool) → b ≡ true → is_standing (sameness b) Differs ≡ false
sameness-not b h = ap (λ c. is_standing (sameness c) Differs) h

both-there : (b : Bool) → is_standing (sameness b) OnlyLeft ≡ false
both-there true = refl
both-there false = refl

is-same : (s : Standing) → is_standing s Same ≡ true → s ≡ Same
is-same Same h = refl
is-same Differs h = absurd (false≢true h)
is-same OnlyLeft h = absurd (false≢true h)
is-same OnlyRight h = absurd (false≢true h)

apart : ◌≡◌ {A = ℕ} 3 0 → ⊥
apart e = absurd (omega arith)

and-sameness : (h r : Bool) → standing_and (sameness h) r ≡ sameness (h && r)
and-sameness true r = refl
and-sameness false r = refl

module _ {X Y : Type 0} (same : X → X → Bool) (f : X → Y) (exact : (x y : X) → Decides (same x y) (f x ≡ f y)) where
  abbrev pub at : List X → List X → ℕ → Standing
  at xs ys i = stands same (slice_get xs i) (slice_get ys i)

  same-at : (o p : Option X) → option_map f o ≡ option_map f p → stands same o p ≡ Same
  same-at None None h = refl
  same-at None (Some y) h = absurd (false≢true (ap is_some h))
  same-at (Some x) None h = absurd (true≢false (ap is_some h))
  same-at (Some x) (Some y) h = ap sameness ((exact x y).1 (ap (λ o. unwrap_or o (f x)) h))

  pub all-same : (xs ys : List X) → map f xs ≡ map f ys → (i : ℕ) → at xs ys i ≡ Same
  all-same xs ys h i = same-at (slice_get xs i) (slice_get ys i) (sym (slice_get-map f xs i) ∙ ap (λ l. slice_get l i) h ∙ slice_get-map f ys i)

  pub equal-from : (xs ys : List X) → ((i : ℕ) → i < length xs → is_standing (at xs ys i) Differs ≡ false) → ((i : ℕ) → i < length xs → is_standing (at xs ys i) OnlyLeft ≡ false) → ((i : ℕ) → i < length ys → is_standing (at ys xs i) OnlyLeft ≡ false) → map f xs ≡ map f ys
  equal-from [] [] a b c = refl
  equal-from [] (y ∷ ys) a b c = absurd (true≢false (c 0 (omega arith)))
  equal-from (x ∷ xs) [] a b c = absurd (true≢false (b 0 (omega arith)))
  equal-from (x ∷ xs) (y ∷ ys) a b c =
      let e : f x ≡ f y = (exact x y).0 (sameness-true (same x y) (a 0 (omega arith))) in
      let more = equal-from xs ys (λ j lt. a (suc j) (omega arith)) (λ j lt. b (suc j) (omega arith)) (λ j lt. c (suc j) (omega arith)) in
      λ i. e i ∷ more i

  turned : (o p : Option X) → stands same o p ≡ Same → is_standing (stands same p o) OnlyLeft ≡ false
  turned None None h = refl
  turned None (Some y) h = absurd (apart (ap standing_number h))
  turned (Some x) None h = refl
  turned (Some x) (Some y) h = both-there (same y x)

  pub listed-Decides : (xs ys : List X) (n m : ℕ) → n ≡ length xs → m ≡ length ys → Decides (n == m && list_all (λ i. is_standing (at xs ys i) Same) (range_with_len 0 n)) (map f xs ≡ map f ys)
  listed-Decides xs ys n m e g =
      let test : ℕ → Bool = λ i. is_standing (at xs ys i) Same in (
        (λ h.
            let p = and_parts (eqb n m) (list_all test (range_with_len 0 n)) h in
            let k = eqb-true n m p.0 in
            let each : (i : ℕ) → i < n → at xs ys i ≡ Same = λ i lt. is-same (at xs ys i) (all-below test n p.1 i lt) in
            equal-from xs ys
            (λ i lt. ap (λ s. is_standing s Differs) (each i (omega arith)))
            (λ i lt. ap (λ s. is_standing s OnlyLeft) (each i (omega arith)))
            (λ i lt. turned (slice_get xs i) (slice_get ys i) (each i (omega arith)))),
        (λ h.
            let l = sym (length-map xs f) ∙ ap length h ∙ length-map ys f in
            and_from (eqb n m) (list_all test (range_with_len 0 n)) (eq-eqb n m (e ∙ l ∙ sym g)) (all-passed test 0 n (λ i. ap (λ s. is_standing s Same) (all-same xs ys h i)))),
      )

-- what has a head and attributes
module _ {O H A : Type 0} (head : O → H) (count : O → ℕ) (attrs : O → List A) (same_head : H → H → Bool) (same_attr : A → A → Bool) where
  abbrev same_attrs : O → O → Bool
  same_attrs x y = count x == count y && list_all (λ i. is_standing (stands same_attr (slice_get (attrs x) i) (slice_get (attrs y) i)) Same) (range_with_len 0 (count x))

  abbrev pub same_owner : O → O → Bool
  same_owner x y = same_head (head x) (head y) && same_attrs x y

  abbrev rest_same : Option O → Option O → Bool
  rest_same o p =
      unwrap_or (option_map count o) 0 == unwrap_or (option_map count p) 0
      && list_all (λ i. is_standing (stands same_attr (option_flatten (option_map (λ x. slice_get (attrs x) i) o)) (option_flatten (option_map (λ x. slice_get (attrs x) i) p))) Same) (range_with_len 0 (unwrap_or (option_map count o) 0))

  pub owner-stands : (o p : Option O) → standing_and (stands same_head (option_map head o) (option_map head p)) (rest_same o p) ≡ stands same_owner o p
  owner-stands None None = refl
  owner-stands None (Some y) = refl
  owner-stands (Some x) None = refl
  owner-stands (Some x) (Some y) = and-sameness (same_head (head x) (head y)) (same_attrs x y)

  module _ (counted : (o : O) → count o ≡ length (attrs o)) (exact_head : (x y : H) → Decides (same_head x y) (x ≡ y)) (exact_attr : (x y : A) → Decides (same_attr x y) (x ≡ y)) where
    attrs-Decides : (x y : O) → Decides (same_attrs x y) (attrs x ≡ attrs y)
    attrs-Decides x y =
        Decides-like (same_attrs x y) (λ h. sym (map-id (attrs x)) ∙ h ∙ map-id (attrs y)) (λ h. map-id (attrs x) ∙ h ∙ sym (map-id (attrs y)))
        (listed-Decides same_attr (λ z. z) exact_attr (attrs x) (attrs y) (count x) (count y) (counted x) (counted y))

    pub owner-Decides : (x y : O) → Decides (same_owner x y) ((head x ≡ head y) × (attrs x ≡ attrs y))
    owner-Decides x y = Decides-and (same_head (head x) (head y)) (same_attrs x y) (exact_head (head x) (head y)) (attrs-Decides x y)

-- counts by the standings of the places of two lists
module _ {X Y : Type 0} (same : X → X → Bool) (f : X → Y) (exact : (x y : X) → Decides (same x y) (f x ≡ f y)) (xs ys : List X) (there back : ℕ → Standing) (is : (n : ℕ) → there n ≡ stands same (slice_get xs n) (slice_get ys n)) (turns : (n : ℕ) → back n ≡ stands same (slice_get ys n) (slice_get xs n)) where
  abbrev counted_so : (ℕ → Standing) → List X → Standing → ℕ
  counted_so of zs st = length (filter (λ n. is_standing (of n) st) (range_with_len 0 (length zs)))

  abbrev counts : Apart
  counts = record { differ = counted_so there xs Differs; only_left = counted_so there xs OnlyLeft; only_right = counted_so back ys OnlyLeft }

  pub places-Decides : Decides (none_apart counts) (map f xs ≡ map f ys)
  places-Decides =
      Decides-like (none_apart counts)
      (λ h.
      equal-from same f exact xs ys
      (λ i lt. ap (λ s. is_standing s Differs) (sym (is i)) ∙ none-below (λ n. is_standing (there n) Differs) (length xs) h.differ i lt)
      (λ i lt. ap (λ s. is_standing s OnlyLeft) (sym (is i)) ∙ none-below (λ n. is_standing (there n) OnlyLeft) (length xs) h.only_left i lt)
      (λ i lt. ap (λ s. is_standing s OnlyLeft) (sym (turns i)) ∙ none-below (λ n. is_standing (back n) OnlyLeft) (length ys) h.only_right i lt))
      (λ h.
      let e : (i : ℕ) → there i ≡ Same = λ i. is i ∙ all-same same f exact xs ys h i in
      let g : (i : ℕ) → back i ≡ Same = λ i. turns i ∙ all-same same f exact ys xs (sym h) i in
      record {
        differ = none-counted (λ n. is_standing (there n) Differs) 0 (length xs) (λ i. ap (λ s. is_standing s Differs) (e i));
        only_left = none-counted (λ n. is_standing (there n) OnlyLeft) 0 (length xs) (λ i. ap (λ s. is_standing s OnlyLeft) (e i));
        only_right = none-counted (λ n. is_standing (back n) OnlyLeft) 0 (length ys) (λ i. ap (λ s. is_standing s OnlyLeft) (g i));
      })
      (none_apart-Decides counts)
