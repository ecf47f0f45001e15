-- Times divided by what was done in them.
use Rattle.std.specs.Prelude.{ℕ, List, ◌++◌, ◌*◌, ◌/◌, ◌%◌, ◌^◌, ◌-◌, max, min, codes, decimal}

-- the tenths of a nanosecond that each of so many bytes took, rounded down
abbrev pub tenths_a_byte : ℕ → ℕ → ℕ
tenths_a_byte nanos bytes = min (nanos * 10) (2 ^ 128 - 1) / max bytes 1

-- tenths as a number with one decimal place
abbrev pub with_one_place : ℕ → List ℕ
with_one_place tenths = decimal (tenths / 10) ++ (codes "." ++ decimal (tenths % 10))
