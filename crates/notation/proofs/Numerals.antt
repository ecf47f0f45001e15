-- A loop that reads hex digits.
use Rattle.std.proofs.Common.{◌≡◌, ℕ, ◌+◌, ◌*◌, ◌^◌, ◌<◌, ◌≤◌, List, [], ◌∷◌, length, get_or, drop, Some, None, refl, ap, ◌∙◌, arith, pow_mono, pow-add}
use Rattle.std.proofs.lemmas.List.{drop_more}
use Rattle.std.proofs.lemmas.Bool.{cond-true, eq-eqb}
use Rattle.notation.specs.Hex.{digit_value, more, number_from, pattern_of}

pub room-more : (n i d : ℕ) → n < 2 ^ (4 * i) → d < 16 → n * 16 + d < 2 ^ (4 * (i + 1))
room-more n i d h k =
    let e : 2 ^ (4 * (i + 1)) ≡ 2 ^ (4 * i) * 16 = ap (λ m. 2 ^ m) (omega arith) ∙ pow-add 2 (4 * i) 4 in omega arith

pub room_fits : (n i d : ℕ) → n < 2 ^ (4 * i) → d < 16 → i < 16 → n * 16 + d < 2 ^ 64
room_fits n i d h k l =
    let m : 2 ^ (4 * (i + 1)) ≤ 2 ^ 64 = pow_mono {i = 4 * (i + 1)} {j = 64} (omega arith) in let r = room-more n i d h k in omega arith

none_stays : (bs : List ℕ) → number_from None bs ≡ None
none_stays [] = refl
none_stays (b ∷ bs) = none_stays bs

module _ (n i : ℕ) (bs : List ℕ) where
  pub number_more : (d : ℕ) → i < length bs → digit_value (get_or bs i 0) ≡ Some d → number_from (Some n) (drop i bs) ≡ number_from (Some (n * 16 + d)) (drop (i + 1) bs)
  number_more d h e =
      ap (number_from (Some n)) (drop_more bs i 0 h) ∙ ap (λ o. number_from (more (Some n) o) (drop (i + 1) bs)) e

  pub number-none : i < length bs → digit_value (get_or bs i 0) ≡ None → number_from (Some n) (drop i bs) ≡ None
  number-none h e =
      ap (number_from (Some n)) (drop_more bs i 0 h) ∙ (ap (λ o. number_from (more (Some n) o) (drop (i + 1) bs)) e ∙ none_stays (drop (i + 1) bs))

pub pattern_number : (bs : List ℕ) → length bs ≡ 16 → pattern_of bs ≡ number_from (Some 0) bs
pattern_number bs h = cond-true _ _ _ (eq-eqb (length bs) 16 h)
