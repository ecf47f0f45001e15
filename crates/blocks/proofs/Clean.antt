-- When a chain of checks finds no fault.
use Rattle.std.proofs.Common.{◌≡◌, ℕ, zero, suc, ◌+◌, ◌<◌, ◌≤◌, Bool, true, false, cond, Some, None, Decides, Option, refl, subst, ⊎_elim, arith}
use Rattle.std.specs.Option.{option_map}
use Rattle.std.proofs.lemmas.Bool.{false≢true, cases_lt}
use Rattle.blocks.specs.First.{or_else, first_from}

-- there is no fault just where P
abbrev pub Clean : {E : Type 0} → Option E → Type 0 → Type 0
Clean o P = (o ≡ None → P) × (P → o ≡ None)

pub some_none : {E X : Type 0} (e : E) → Some e ≡ None → X
some_none e h = let z : ◌≡◌ {A = ℕ} 0 1 = cc in absurd (omega arith)

pub clean_like : {E P Q : Type 0} (o : Option E) → (P → Q) → (Q → P) → Clean o P → Clean o Q
clean_like o f g c = (λ h. f (c.0 h), λ q. c.1 (g q))

pub clean_none : {E : Type 0} → Clean {E = E} None (Unit {0})
clean_none = (λ _. tt, λ _. refl)

pub clean_or : {E P Q : Type 0} (a b : Option E) → Clean a P → Clean b Q → Clean (or_else a b) (P × Q)
clean_or None b c d = (λ h. (c.0 refl, d.0 h), λ p. d.1 p.1)
clean_or (Some e) b c d = (λ h. some_none e h, λ p. some_none e (c.1 p.0))

-- a fault unless the test holds, and then the next check
pub clean_and : {E P Q : Type 0} (t : Bool) (x : Option E) (f : E) → Decides t P → Clean x Q → Clean (cond t x (Some f)) (P × Q)
clean_and true x f d c = (λ h. (d.0 refl, c.0 h), λ p. c.1 p.1)
clean_and false x f d c = (λ h. some_none f h, λ p. absurd (false≢true (d.1 p.0)))

-- a fault where the test holds
pub clean_not : {E P Q : Type 0} (t : Bool) (x : Option E) (f : E) → Decides t P → Clean x Q → Clean (cond t (Some f) x) ((P → ⊥) × Q)
clean_not true x f d c = (λ h. some_none f h, λ p. absurd (p.0 (d.0 refl)))
clean_not false x f d c = (λ h. (λ p. false≢true (d.1 p), c.0 h), λ p. c.1 p.1)

-- one check or another
pub clean_by : {E T P Q : Type 0} (t : Bool) (x y : Option E) → Decides t T → Clean x P → Clean y Q → Clean (cond t x y) ((T → P) × ((T → ⊥) → Q))
clean_by true x y d c e = (λ h. (λ _. c.0 h, λ n. absurd (n (d.0 refl))), λ p. c.1 (p.0 (d.0 refl)))
clean_by false x y d c e = (λ h. (λ t. absurd (false≢true (d.1 t)), λ _. e.0 h), λ p. e.1 (p.1 (λ t. false≢true (d.1 t))))

pub clean_mapped : {E F P : Type 0} (g : E → F) (o : Option E) → Clean o P → Clean (option_map g o) P
clean_mapped g None c = (λ h. c.0 refl, λ p. refl)
clean_mapped g (Some e) c = (λ h. some_none (g e) h, λ p. some_none e (c.1 p))

-- each of n checks from the i-th on
pub clean_first : {E : Type 0} (f : ℕ → Option E) (P : ℕ → Type 0) → ((j : ℕ) → Clean (f j) (P j)) → (n i : ℕ) → Clean (first_from f i n) ((j : ℕ) → i ≤ j → j < i + n → P j)
unfolding first_from
clean_first f P c zero i = (λ h j p q. absurd (omega arith), λ p. refl)
clean_first f P c (suc n) i =
    clean_like (or_else (f i) (first_from f (suc i) n))
    (λ p j a b. ⊎_elim (λ lt. p.1 j lt (omega arith)) (λ ge. let e : i ≡ j = omega arith in subst P e p.0) (cases_lt i j))
    (λ p. (p i (omega arith) (omega arith), λ j a b. p j (omega arith) (omega arith)))
    (clean_or (f i) (first_from f (suc i) n) (c i) (clean_first f P c n (suc i)))
