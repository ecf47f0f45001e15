-- What a row keeps of its key, so that a search passes over most rows without their bytes.
use Rattle.std.specs.Prelude.{◌≡◌, ℕ, ◌+◌, ◌-◌, ◌*◌, ◌^◌, List, length, map, slice_index}
use Rattle.conversion.specs.Spans.{Text, bytes_of}
use Rattle.conversion.specs.declared.pieces.MetaRow.{MetaRow}

-- the length of a key, and its last three bytes
unfoldable pub digest : List ℕ → ℕ
digest k = length k + 2 ^ 16 * (slice_index k (length k - 1) + 2 ^ 8 * (slice_index k (length k - 2) + 2 ^ 8 * slice_index k (length k - 3)))

-- rows with the digests of the keys of the pairs that they mean
abbrev pub Digested : List MetaRow → List (Text × Text) → Type 0
Digested rows pairs = map (λ r. r.digest) rows ≡ map (λ p. digest (bytes_of p.0)) pairs
