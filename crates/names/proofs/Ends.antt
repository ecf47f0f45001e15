-- A last place is what its name says.
use Rattle.std.proofs.Common.{◌≡◌, ℕ, zero, suc, ◌+◌, ◌<◌, false, cond, List, [], ◌∷◌, length, get_or, Some, None, Option, sym, ap, ◌∙◌, arith}
use Rattle.std.specs.Str.{bytes_eq}
use Rattle.std.proofs.lemmas.Slice.Eq.{bytes_eq-Decides}
use Rattle.std.proofs.lemmas.Bool.{cond_both}
use Rattle.lent_bytes.proofs.Index.{apart_from}
use Rattle.names.specs.Places.{or_else, last_from, last_place, LastAt, LastExactly}

-- the same, counted from i
abbrev At : ℕ → List ℕ → List (List ℕ) → Option ℕ → Type 0
At i k ks None = (j : ℕ) → j < length ks → get_or ks j [] ≡ k → ⊥
At i k ks (Some p) = (q : ℕ) × ((p ≡ i + q) × (q < length ks) × (get_or ks q [] ≡ k) × ((j : ℕ) → q < j → j < length ks → get_or ks j [] ≡ k → ⊥))

module _ (k x : List ℕ) (xs : List (List ℕ)) where
  behind : ((j : ℕ) → j < length xs → get_or xs j [] ≡ k → ⊥) → (j : ℕ) → 0 < j → j < suc (length xs) → get_or (x ∷ xs) j [] ≡ k → ⊥
  behind h zero b l e = omega arith
  behind h (suc j) b l e = h j (omega arith) e

  further : (q : ℕ) → ((j : ℕ) → q < j → j < length xs → get_or xs j [] ≡ k → ⊥) → (j : ℕ) → suc q < j → j < suc (length xs) → get_or (x ∷ xs) j [] ≡ k → ⊥
  further q h zero b l e = omega arith
  further q h (suc j) b l e = h j (omega arith) (omega arith) e

  nowhere : bytes_eq x k ≡ false → ((j : ℕ) → j < length xs → get_or xs j [] ≡ k → ⊥) → (j : ℕ) → j < suc (length xs) → get_or (x ∷ xs) j [] ≡ k → ⊥
  nowhere f h zero l e = apart_from x k f e
  nowhere f h (suc j) l e = h j (omega arith) e

  at-step : (i : ℕ) (o : Option ℕ) → At (suc i) k xs o → At i k (x ∷ xs) (or_else o (cond (bytes_eq x k) (Some i) None))
  at-step i None h =
      cond_both
      (bytes_eq x k)
      (Some i)
      None
      (At i k (x ∷ xs))
      (λ e. (0, (omega arith, omega arith, (bytes_eq-Decides x k).0 e, behind h)))
      (λ f. nowhere f h)
  at-step i (Some p) (q, g) = (suc q, (omega arith, omega arith, g.2, further q g.3))

at_last : (i : ℕ) (k : List ℕ) (ks : List (List ℕ)) → At i k ks (last_from i k ks)
unfolding last_from
at_last i k [] = λ j l e. omega arith
at_last i k (x ∷ xs) = at-step k x xs i (last_from (suc i) k xs) (at_last (suc i) k xs)

last-at : (k : List ℕ) (ks : List (List ℕ)) (o : Option ℕ) → At 0 k ks o → LastAt k ks o
last-at k ks None h = h
last-at k ks (Some p) (q, g) =
    let e : q ≡ p = omega arith in
    (omega arith, ap (λ j. get_or ks j []) (sym e) ∙ g.2, λ j b l t. g.3 j (omega arith) l t)

pub last_exactly_lem : LastExactly
last_exactly_lem k ks = last-at k ks (last_place k ks) (at_last 0 k ks)
