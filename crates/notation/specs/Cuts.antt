-- Bytes cut at a byte.
use Rattle.std.specs.Prelude.{◌≡◌, ℕ, ◌<◌, Bool, true, List, [], ◌∷◌, ◌++◌, ◌==◌, length, Some, None, Option, ◌≢◌, slice_index}
use Rattle.std.specs.Borrow.{Bor}
use Rattle.std.specs.Str.{IsTrimAsciiStart}

-- no byte of xs is b
abbrev pub Lacks : ℕ → List ℕ → Type 0
Lacks b xs = (k : ℕ) → k < length xs → slice_index xs k ≢ b

-- front and rest are xs without one b between them; with no rest, front is all of xs
abbrev pub Joins : ℕ → List ℕ → List ℕ → Option (Bor (List ℕ)) → Type 0
Joins b xs front None = front ≡ xs
Joins b xs front (Some rest) = (xs ≡ front ++ b ∷ rest.now) × (length rest.now < length xs)

abbrev pub or_nothing : Option (Bor (List ℕ)) → List ℕ
or_nothing None = []
or_nothing (Some rest) = rest.now

-- the text up to the first space, and behind it what follows the spaces, nothing where there is no space
abbrev pub FirstWord : List ℕ → List ℕ → List ℕ → Type 0
FirstWord xs word rest = (behind : Option (Bor (List ℕ))) × Joins 32 xs word behind × IsTrimAsciiStart (or_nothing behind) rest

-- nothing, or a comment, which begins with #
abbrev pub is_no_content : List ℕ → Bool
is_no_content [] = true
is_no_content (x ∷ xs) = x == 35
