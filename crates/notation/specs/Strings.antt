-- Strings in double quotes, byte by byte.
use Rattle.std.specs.Prelude.{ℕ, cond, List, [], ◌∷◌, ◌++◌, Some, None, Ok, Err, Option, Result, ◌==◌}
use Rattle.notation.specs.declared.fault.LineFault.{LineFault}
use Rattle.notation.specs.declared.fault.LineFault.TheVariants.{NoQuote, UnknownEscape, BadByteEscape}
use Rattle.notation.specs.declared.quoted.Place.{Place}
use Rattle.notation.specs.declared.quoted.Place.TheVariants.{Plain, Escape, High, Low}
use Rattle.notation.specs.declared.quoted.Move.{Move}
use Rattle.notation.specs.declared.quoted.Move.TheVariants.{Into, Byte, Close}
use Rattle.notation.specs.Hex.{digit_value, more}

abbrev pub hex_move : Option ℕ → Result Move LineFault
hex_move (Some b) = Ok (Byte b)
hex_move None = Err BadByteEscape

-- a quote closes, a backslash begins an escape: \\, \", \n, or \x and two hex digits
abbrev pub move_of : Place → ℕ → Result Move LineFault
move_of Plain b = cond (b == 34) (Ok Close) (cond (b == 92) (Ok (Into Escape)) (Ok (Byte b)))
move_of Escape b =
    cond (b == 92) (Ok (Byte b)) (cond (b == 34) (Ok (Byte b)) (cond (b == 110) (Ok (Byte 10)) (cond (b == 120) (Ok (Into High)) (Err UnknownEscape))))
move_of High b = Ok (Into (Low b))
move_of (Low h) b = hex_move (more (digit_value h) (digit_value b))

-- a string's bytes and what follows its closing quote, where reading goes on at a place with the bytes so far
abbrev pub string_from : Place → List ℕ → List ℕ → Result (List ℕ × List ℕ) LineFault
string_from p out [] = Err NoQuote
string_from p out (b ∷ bs) =
    elim (move_of p b) [ Ok m ↦ elim m [ Into q ↦ string_from q out bs | Byte c ↦ string_from Plain (out ++ c ∷ []) bs | Close ↦ Ok (out, bs) ] | Err f ↦ Err f ]

-- the same behind an opening quote
abbrev pub quoted_in : List ℕ → Result (List ℕ × List ℕ) LineFault
quoted_in [] = Err NoQuote
quoted_in (b ∷ bs) = cond (b == 34) (string_from Plain [] bs) (Err NoQuote)
