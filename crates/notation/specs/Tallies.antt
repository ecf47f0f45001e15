-- Counts that stay at 2^64 - 1.
use Rattle.std.specs.Prelude.{ℕ, ◌+◌, ◌-◌, ◌^◌, min, Bool, cond}

abbrev pub one_added : ℕ → ℕ
one_added n = min (n + 1) (2 ^ 64 - 1)

abbrev pub more_if : Bool → ℕ → ℕ
more_if b n = cond b (one_added n) n

abbrev pub more_unless : Bool → ℕ → ℕ
more_unless b n = cond b n (one_added n)
