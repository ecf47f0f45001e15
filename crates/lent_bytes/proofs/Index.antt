-- Looking a key up in a list of texts.
use Rattle.std.proofs.Common.{◌≡◌, ℕ, zero, suc, ◌+◌, ◌<◌, true, false, not, cond, map, List, [], ◌∷◌, length, get_or, Some, None, Option, Bor, sym, refl, ap, ◌∙◌, inl, inr, arith}
use Rattle.std.specs.List.{position_from}
use Rattle.std.specs.Str.{bytes_eq}
use Rattle.std.proofs.lemmas.Slice.Eq.{bytes_eq-Decides}
use Rattle.std.proofs.lemmas.Bool.{cond-true, cond-false, cond_both, and_parts, not-true, both_ways, cases_Bool}
use Rattle.lent_bytes.specs.Lookup.{index_from, lacks, distinct, Found, LookedUpExactly}

-- the library's search, over texts that are borrowed
pub looked_from : (i : ℕ) (k : List ℕ) (ts : List (Bor (List ℕ))) → position_from (λ t. bytes_eq t.now k) i ts ≡ index_from i k (map (λ x. x.now) ts)
looked_from i k [] = refl
looked_from i k (t ∷ ts) = ap (cond (bytes_eq t.now k) (Some i)) (looked_from (i + 1) k ts)

-- texts that are the same, and texts that are not
pub same_from : (a b : List ℕ) → a ≡ b → bytes_eq a b ≡ true
same_from a b e = (bytes_eq-Decides a b).1 e

pub apart_from : (a b : List ℕ) → bytes_eq a b ≡ false → a ≡ b → ⊥
apart_from a b f e = both_ways (bytes_eq a b) f (same_from a b e)

-- what a look-up that counts from i answers
abbrev At : ℕ → List ℕ → List (List ℕ) → Option ℕ → Type 0
At i k ts None = (j : ℕ) → j < length ts → get_or ts j [] ≡ k → ⊥
At i k ts (Some p) = (q : ℕ) × ((p ≡ i + q) × (q < length ts) × (get_or ts q [] ≡ k))

at_none : (k x : List ℕ) (xs : List (List ℕ)) → bytes_eq x k ≡ false → ((j : ℕ) → j < length xs → get_or xs j [] ≡ k → ⊥) → (j : ℕ) → j < suc (length xs) → get_or (x ∷ xs) j [] ≡ k → ⊥
at_none k x xs f h zero l e = apart_from x k f e
at_none k x xs f h (suc j) l e = h j (omega arith) e

at-step : (i : ℕ) (k x : List ℕ) (xs : List (List ℕ)) (o : Option ℕ) → bytes_eq x k ≡ false → At (i + 1) k xs o → At i k (x ∷ xs) o
at-step i k x xs None f h = at_none k x xs f h
at-step i k x xs (Some p) f (q, h) = (suc q, (omega arith, omega arith, h.2))

at_index : (i : ℕ) (k : List ℕ) (ts : List (List ℕ)) → At i k ts (index_from i k ts)
at_index i k [] = λ j l e. omega arith
at_index i k (x ∷ xs) =
    cond_both
    (bytes_eq x k)
    (Some i)
    (index_from (i + 1) k xs)
    (At i k (x ∷ xs))
    (λ e. (0, (omega arith, omega arith, (bytes_eq-Decides x k).0 e)))
    (λ f. at-step i k x xs (index_from (i + 1) k xs) f (at_index (i + 1) k xs))

found_from : (k : List ℕ) (ts : List (List ℕ)) (o : Option ℕ) → At 0 k ts o → Found k ts o
found_from k ts None h = h
found_from k ts (Some p) (q, h) =
    let e : q ≡ p = omega arith in
    (omega arith, ap (λ j. get_or ts j []) (sym e) ∙ h.2)

-- a look-up answers a place of the text, or none where there is none
pub index_found : (k : List ℕ) (ts : List (List ℕ)) → Found k ts (index_from 0 k ts)
index_found k ts = found_from k ts _ (at_index 0 k ts)

-- a text of the table stands nowhere behind itself
pub lacks-at : (x : List ℕ) (xs : List (List ℕ)) (j : ℕ) → lacks x xs ≡ true → j < length xs → get_or xs j [] ≡ x → ⊥
lacks-at x [] j d l e = omega arith
lacks-at x (y ∷ ys) zero d l e = apart_from y x (not-true _ (and_parts (not (bytes_eq y x)) (lacks x ys) d).0) e
lacks-at x (y ∷ ys) (suc j) d l e = lacks-at x ys j (and_parts (not (bytes_eq y x)) (lacks x ys) d).1 (omega arith) e

index_behind : (i : ℕ) (k x : List ℕ) (xs : List (List ℕ)) (j : ℕ) → lacks x xs ≡ true → j < length xs → get_or xs j [] ≡ k → index_from i k (x ∷ xs) ≡ index_from (i + 1) k xs
index_behind i k x xs j d l e =
    elim (cases_Bool (bytes_eq x k)) [ inl t ↦ absurd (lacks-at x xs j d l (e ∙ sym ((bytes_eq-Decides x k).0 t))) | inr f ↦ cond-false _ _ _ f ]

-- where no text stands twice, a text is found at its own place
pub index_exact : (i : ℕ) (k : List ℕ) (ts : List (List ℕ)) (j : ℕ) → distinct ts ≡ true → j < length ts → get_or ts j [] ≡ k → index_from i k ts ≡ Some (i + j)
index_exact i k [] j d l e = absurd (omega arith)
index_exact i k (x ∷ xs) zero d l e = cond-true _ _ _ (same_from x k e) ∙ ap Some (omega arith)
index_exact i k (x ∷ xs) (suc j) d l e =
    let p = and_parts (lacks x xs) (distinct xs) d in
    index_behind i k x xs j p.0 (omega arith) e ∙ (index_exact (i + 1) k xs j p.1 (omega arith) e ∙ ap Some (omega arith))

pub looked_up_exactly : (ts : List (List ℕ)) → distinct ts ≡ true → LookedUpExactly ts
looked_up_exactly ts d k =
    (index_found k ts, λ i l e. index_exact 0 k ts i d l e ∙ ap Some (omega arith))
