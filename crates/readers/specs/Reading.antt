-- What a reader means: a reading. Keys go by their places in the table of known keys.
use Rattle.std.specs.Prelude.{ℕ, List, [], length, ℤ, Some, None, Option}
use Rattle.blocks.specs.declared.span_kind.SpanKind.{SpanKind}

-- what a span says under a key: a text, and perhaps a number
pub record Known : Type 0 where
  pub text : List ℕ
  pub number : Option ℤ

pub record Reading : Type 0 where
  pub name : List ℕ
  pub kind : SpanKind
  pub span : ℕ → Option Known
  pub resource : ℕ → Option (List ℕ)

abbrev pub text_of : Option Known → Option (List ℕ)
text_of None = None
text_of (Some k) = Some k.text

abbrev pub number_of : Option Known → Option ℤ
number_of None = None
number_of (Some k) = k.number

-- a text that may be absent: its bytes, none where it is, and its length
abbrev pub bytes_of : Option (List ℕ) → List ℕ
bytes_of None = []
bytes_of (Some t) = t

abbrev pub size_of : Option (List ℕ) → Option ℕ
size_of None = None
size_of (Some t) = Some (length t)
