-- The first fault of several checks.
use Rattle.std.specs.Prelude.{ℕ, zero, suc, Some, None, Option}

abbrev pub or_else : {E : Type 0} → Option E → Option E → Option E
or_else None b = b
or_else (Some e) b = Some e

-- of n checks from the i-th on
unfoldable pub first_from : {E : Type 0} → (ℕ → Option E) → ℕ → ℕ → Option E
first_from f i zero = None
first_from f i (suc n) = or_else (f i) (first_from f (suc i) n)
