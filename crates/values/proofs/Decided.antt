-- The test says what `IsUtf8` says.
use Rattle.std.proofs.Common.{ℕ, List, IsUtf8, Decides}
use lib.Utf8.{encodes, scalars}
use Rattle.std.specs.Str.{chars}
use Rattle.std.proofs.lemmas.Slice.Eq.{bytes_eq-Decides}
use Rattle.std.proofs.lemmas.Bool.{and_parts, and_from}
use Rattle.std.proofs.lemmas.Str.{encodes-chars, scalars-chars}
use Rattle.values.specs.Unicode.{is_text}

pub is_text_decides : (b : List ℕ) → Decides (is_text b) (IsUtf8 b)
unfolding is_text
is_text_decides b = (
  λ e. let p = and_parts (scalars (chars b)) _ e in (chars b, (p.0, (bytes_eq-Decides (encodes (chars b)) b).0 p.1)),
  λ u. and_from _ _ (scalars-chars b u) ((bytes_eq-Decides (encodes (chars b)) b).1 (encodes-chars b u)),
)
