-- Where each known key stands last in a list of texts.
use Rattle.std.specs.Prelude.{◌≡◌, ℕ, suc, ◌<◌, cond, List, [], ◌∷◌, length, Some, None, Option, ◌≢◌, slice_index_or, slice_set}
use Rattle.std.specs.Str.{bytes_eq}
use Rattle.names.specs.declared.attribute_keys.AttributeKey.{AttributeKey}

-- the places, with i noted at the place of a key that is known
abbrev pub noted : Option AttributeKey → ℕ → List (Option ℕ) → List (Option ℕ)
noted None i places = places
noted (Some key) i places = slice_set places key.idx (Some i)

-- a, or b where a is none
abbrev pub or_else : Option ℕ → Option ℕ → Option ℕ
or_else None b = b
or_else (Some i) b = Some i

-- the last place at which k stands in ks, counted from i
unfoldable pub last_from : ℕ → List ℕ → List (List ℕ) → Option ℕ
last_from i k [] = None
last_from i k (x ∷ xs) = or_else (last_from (suc i) k xs) (cond (bytes_eq x k) (Some i) None)

abbrev pub last_place : List ℕ → List (List ℕ) → Option ℕ
last_place k ks = last_from 0 k ks

-- what a last place means: the text stands there and nowhere behind it, and there is none just where it stands nowhere
abbrev pub LastAt : List ℕ → List (List ℕ) → Option ℕ → Type 0
LastAt k ks None = (j : ℕ) → j < length ks → slice_index_or ks j [] ≢ k
LastAt k ks (Some i) = (i < length ks) × (slice_index_or ks i [] ≡ k) × ((j : ℕ) → i < j → j < length ks → slice_index_or ks j [] ≢ k)

abbrev pub LastExactly : Type 0
LastExactly = (k : List ℕ) (ks : List (List ℕ)) → LastAt k ks (last_place k ks)
