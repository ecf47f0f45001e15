-- Whether bytes are UTF-8, as a test that definitions can branch on. What the test decides is std's
-- `IsUtf8`: the bytes are the encoding of a list of Unicode scalar values, as in RFC 3629.
use Rattle.std.specs.Prelude.{ℕ, Bool, ◌&&◌, List}
use Rattle.std.proofs.Math.Utf8.{encodes, scalars}
use Rattle.std.specs.Str.{chars, bytes_eq}

unfoldable pub is_text : List ℕ → Bool
is_text b = scalars (chars b) && bytes_eq (encodes (chars b)) b
