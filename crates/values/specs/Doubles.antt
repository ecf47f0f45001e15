-- Which whole number a double is, by IEEE 754's meaning of a pattern: `from_bits binary64`.
use Rattle.std.specs.Prelude.{◌≡◌, ℕ, ◌+◌, ◌*◌, ◌/◌, ◌%◌, ◌^◌, Bool, true, false, cond, ℤ, pos, neg_ℤ, Some, None, Option, ◌==◌, nat_le, nat_lt, unsigned_abs, Float}
use Rattle.std.specs.Float.Ieee.Exact.{HasValue}
use Rattle.std.specs.Float.{nan, inf, fin}
use Rattle.std.specs.Float.Ieee.{up, down}

-- f of the whole number a / d, and None where d does not divide a
abbrev pub divided : {X : Type 0} → (ℕ → Option X) → ℕ → ℕ → Option X
divided f a d = cond (a % d == 0) (f (a / d)) None

-- n with its sign, where that lies from -2^63 to 2^63 - 1
abbrev pub ranged : Bool → ℕ → Option ℤ
ranged true n = cond (nat_le n (2 ^ 63)) (Some (neg_ℤ (pos n))) None
ranged false n = cond (nat_lt n (2 ^ 63)) (Some (pos n)) None

-- the whole number that a double is: none of a NaN, an infinity, a fraction or a number out of range
abbrev pub whole_of : Float → Option ℤ
whole_of nan = None
whole_of (inf s) = None
whole_of (fin s m e) = divided (ranged s) (m * up e) (down e)

-- n, up to 2^63
abbrev pub small : ℕ → Option ℕ
small n = cond (nat_le n (2 ^ 63)) (Some n) None

abbrev pub signed_of : Bool → Option ℕ → Option ℤ
signed_of s None = None
signed_of s (Some n) = ranged s n

-- the digits of a double with the exponent's field x and the digits' field t
abbrev pub significand : ℕ → ℕ → ℕ
significand x t = cond (x == 0) t (2 ^ 52 + t)

-- v is the number z, and z lies in range: `HasValue v s n 1` says that v is n with the sign s
abbrev pub Is : Float → ℤ → Type 0
Is v z = (s : Bool) × (HasValue v s (unsigned_abs z) 1 × (ranged s (unsigned_abs z) ≡ Some z))

abbrev pub WholeExactly : Type 0
WholeExactly = (v : Float) (z : ℤ) → (whole_of v ≡ Some z → Is v z) × (Is v z → whole_of v ≡ Some z)
