-- What hex digits say.
use Rattle.std.specs.Prelude.{ℕ, ◌+◌, ◌-◌, ◌*◌, Bool, cond, ◌&&◌, List, [], ◌∷◌, length, Some, None, Option, ◌==◌, nat_le}

abbrev within : ℕ → ℕ → ℕ → Bool
within low high b = nat_le low b && nat_le b high

-- the value of a digit: 0 to 9, a to f, A to F
abbrev pub digit_value : ℕ → Option ℕ
digit_value b =
    cond (within 48 57 b) (Some (b - 48)) (cond (within 97 102 b) (Some (b - 87)) (cond (within 65 70 b) (Some (b - 55)) None))

abbrev pub more : Option ℕ → Option ℕ → Option ℕ
more None d = None
more (Some n) None = None
more (Some n) (Some d) = Some (n * 16 + d)

-- the number of digits behind those that say n, the most significant first
abbrev pub number_from : Option ℕ → List ℕ → Option ℕ
number_from n [] = n
number_from n (b ∷ bs) = number_from (more n (digit_value b)) bs

abbrev pub pattern_of : List ℕ → Option ℕ
pattern_of bs = cond (length bs == 16) (number_from (Some 0) bs) None
