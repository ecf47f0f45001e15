-- Bools and doubles as they are written.
use Rattle.std.specs.Prelude.{◌≡◌, ℕ, cond, List, ◌∷◌, ◌++◌, Some, Ok, Err, codes, Result}
use Rattle.std.specs.Str.{bytes_eq}
use Rattle.notation.specs.declared.fault.LineFault.{LineFault}
use Rattle.notation.specs.declared.fault.LineFault.TheVariants.{NotBool}
use Rattle.notation.specs.Hex.{pattern_of}

abbrev pub bool_in : List ℕ → Result ℕ LineFault
bool_in text = cond (bytes_eq text (codes "true")) (Ok 1) (cond (bytes_eq text (codes "false")) (Ok 0) (Err NotBool))

-- written is the pattern in hex digits, a colon, and the text
abbrev pub WritesDouble : List ℕ → ℕ → List ℕ → Type 0
WritesDouble written pattern text =
    (digits : List ℕ) × ((written ≡ digits ++ 58 ∷ text) × (pattern_of digits ≡ Some pattern))
