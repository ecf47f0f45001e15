-- The forms in which values and keys go into a span, and where each form lies.
use Rattle.std.specs.Prelude.{ℕ, zero, suc, ◌^◌, Bool, true, false, cond, List, [], ◌++◌, map, ℤ, pos, negsuc, Some, None, codes, Option, from_bits, nat_lt}
use Rattle.std.specs.Char.{to_ascii_lowercase}
use Rattle.std.specs.Float.{binary64}
use Rattle.std.specs.Fmt.{signed_decimal}
use Rattle.std.specs.Str.{bytes_eq}
use Rattle.lent_bytes.specs.Memory.{clip}
use Rattle.values.specs.Atoms.{Datum, flag, whole, double, words, single, several}
use Rattle.values.specs.Doubles.{whole_of}
use Rattle.values.specs.Shown.{flag_text, datum_text, display, metric_of, number_of}
use Rattle.blocks.specs.Facts.{RowFact, Facts}
use Rattle.span_args.specs.ReadingOf.{datum_at, last_row_of}
use Rattle.readers.specs.DatadogKeys.{Key, mapped, header, dropped, kept}
use Rattle.conversion.specs.Spans.{Text, quoted, lent, placed}

-- 0 and 1 are quoted, and another number's text is placed
abbrev pub number_form : Option ℤ → List ℕ → Text
number_form None t = placed (clip 4096 t)
number_form (Some (pos zero)) t = quoted (codes "0")
number_form (Some (pos (suc zero))) t = quoted (codes "1")
number_form (Some (pos (suc (suc n)))) t = placed (clip 4096 t)
number_form (Some (negsuc n)) t = placed (clip 4096 t)

-- a string is a part of the block
abbrev pub string_form : Option Datum → Text
string_form None = quoted []
string_form (Some (single (flag b))) = quoted (flag_text b)
string_form (Some (single (whole z))) = number_form (Some z) (signed_decimal z)
string_form (Some (single (double p t))) = number_form (whole_of (from_bits binary64 p)) t
string_form (Some (single (words t))) = lent t
string_form (Some (several k xs)) = placed (clip 4096 (display (several k xs)))

-- all but a string is placed, with or without quotes around the strings of an array
abbrev pub shown_form : Bool → Option Datum → Text
shown_form quotes None = quoted []
shown_form quotes (Some (single (flag b))) = placed (clip 4096 (flag_text b))
shown_form quotes (Some (single (whole z))) = placed (clip 4096 (signed_decimal z))
shown_form quotes (Some (single (double p t))) = placed (clip 4096 t)
shown_form quotes (Some (single (words t))) = lent t
shown_form quotes (Some (several k xs)) = placed (clip 4096 (datum_text quotes (several k xs)))

abbrev pub display_form : Option Datum → Text
display_form d = shown_form true d

abbrev pub plain_form : Option Datum → Text
plain_form d = shown_form false d

abbrev pub metric_form : Option Datum → Option ℕ
metric_form None = None
metric_form (Some d) = metric_of d

-- the key of a header, by its name
abbrev pub header_key : List ℕ → List ℕ
header_key name = clip 4096 (codes "http.request.headers." ++ name)

-- a key of Datadog's own is quoted, and a header's is made
abbrev pub key_form : Key → Text
key_form (mapped t) = quoted t
key_form (header t) = placed (header_key t)
key_form dropped = quoted []
key_form (kept t) = lent t

abbrev pub option_datum : Option RowFact → Option Datum
option_datum None = None
option_datum (Some r) = datum_at r

-- the value of the last row with a key, of the span and of the resource
abbrev pub own : Facts → List ℕ → Option Datum
own f k = option_datum (last_row_of 0 k f.rows)

abbrev pub of_resource : Facts → List ℕ → Option Datum
of_resource f k = option_datum (last_row_of 1 k f.rows)

abbrev pub number_in : Option Datum → Option ℤ
number_in None = None
number_in (Some d) = number_of d

-- times before 1970 count as 1970
abbrev pub since_1970 : ℤ → ℕ
since_1970 (pos n) = n
since_1970 (negsuc n) = 0

-- a number of 32 bits with a sign
abbrev pub int32 : Option ℤ → Option ℤ
int32 None = None
int32 (Some (pos n)) = cond (nat_lt n (2 ^ 31)) (Some (pos n)) None
int32 (Some (negsuc n)) = cond (nat_lt n (2 ^ 31)) (Some (negsuc n)) None

-- true and false in any ASCII case
abbrev pub parsed_bool : List ℕ → Option Bool
parsed_bool t = cond (bytes_eq (map to_ascii_lowercase t) (codes "true")) (Some true) (cond (bytes_eq (map to_ascii_lowercase t) (codes "false")) (Some false) None)

-- one as a pattern
abbrev pub one : ℕ
one = 0x3ff0_0000_0000_0000
