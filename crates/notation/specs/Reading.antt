-- Bytes read from hex digits, character by character.
use Rattle.std.specs.Prelude.{ℕ, cond, List, [], ◌∷◌, ◌++◌, Some, None, Ok, Err, Option, Result, ◌==◌}
use Rattle.notation.specs.declared.fault.LineFault.{LineFault}
use Rattle.notation.specs.declared.fault.LineFault.TheVariants.{NotHex, OddHex}
use Rattle.notation.specs.Hex.{digit_value, more}

-- nothing more comes
abbrev pub finished : Option ℕ → List ℕ → Result (List ℕ) LineFault
finished None out = Ok out
finished (Some first) out = Err OddHex

-- what is read where reading goes on behind the first digit of a byte, if there is one, with the bytes so far; a space
-- counts for nothing
abbrev pub bytes_from : Option ℕ → List ℕ → List ℕ → Result (List ℕ) LineFault
bytes_from first out [] = finished first out
bytes_from first out (b ∷ bs) =
    cond (b == 32) (bytes_from first out bs) (elim first [ None ↦ elim (digit_value b) [ None ↦ Err NotHex | Some d ↦ bytes_from (Some b) out bs ] | Some a ↦ elim (more (digit_value a) (digit_value b)) [ None ↦ Err NotHex | Some c ↦ bytes_from None (out ++ c ∷ []) bs ] ])
