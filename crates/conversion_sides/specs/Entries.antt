-- The entries of meta and metrics of two spans beside each other, key by key.
use Rattle.std.specs.Prelude.{ℕ, Bool, false, ◌&&◌, List, filter, length, Some, None, Option, nat_eq}
use Rattle.std.specs.Bool.{beq}
use Rattle.std.specs.List.{slice_get, range_with_len}
use Rattle.std.specs.Option.{option_map}
use Rattle.std.specs.Str.{bytes_eq}
use Rattle.conversion.specs.Spans.{bytes_of, Span, found, texts_under, numbers_under}
use Rattle.conversion_law.specs.Agreement.{left_out}
use Rattle.conversion_sides.specs.declared.standing.Standing.{Standing}
use Rattle.conversion_sides.specs.declared.standing.Standing.TheVariants.{Same, Differs, OnlyLeft}
use Rattle.conversion_sides.specs.declared.entries.Part.{Part}
use Rattle.conversion_sides.specs.declared.entries.Part.TheVariants.{Meta, Metrics}
use Rattle.conversion_sides.specs.declared.entries.Apart.{Apart}
use Rattle.conversion_sides.specs.Standings.{stands, is_standing}

-- an entry beside what is looked up under its key
abbrev pub beside : {V : Type 0} → (V → V → Bool) → (List ℕ → Option V) → Option (List ℕ × V) → Standing
beside same look None = Same
beside same look (Some p) = stands same (Some p.1) (look p.0)

abbrev pub text_under : Span → List ℕ → Option (List ℕ)
text_under s k = option_map bytes_of (found k s.meta)

abbrev pub number_under : Span → List ℕ → Option ℕ
number_under s k = found k s.metrics

-- whether a key is one of the ten names
abbrev pub has_left_out : Option (List ℕ) → Bool
has_left_out None = false
has_left_out (Some k) = left_out k

abbrev pub entries_in : Part → Span → ℕ
entries_in Meta s = length s.meta
entries_in Metrics s = length s.metrics

-- how the i-th entry of s stands beside what t has under its key
abbrev pub entry_standing : Part → Span → Span → ℕ → Standing
entry_standing Meta s t i = beside bytes_eq (text_under t) (slice_get (texts_under s.meta) i)
entry_standing Metrics s t i = beside nat_eq (number_under t) (slice_get (numbers_under s.metrics) i)

-- and what either has under the key k
abbrev pub key_standing : Part → Span → Span → List ℕ → Standing
key_standing Meta s t k = stands bytes_eq (text_under s k) (text_under t k)
key_standing Metrics s t k = stands nat_eq (number_under s k) (number_under t k)

abbrev pub entry_key : Part → Span → ℕ → Option (List ℕ)
entry_key Meta s i = option_map (λ p. p.0) (slice_get (texts_under s.meta) i)
entry_key Metrics s i = option_map (λ p. p.0) (slice_get (numbers_under s.metrics) i)

abbrev pub entry_left_out : Part → Span → ℕ → Bool
entry_left_out p s i = has_left_out (entry_key p s i)

-- how many entries of s stand so beside t, under one of the ten names or under none of them
abbrev pub stands_so : Part → Span → Span → Standing → Bool → ℕ → Bool
stands_so p s t st out i = is_standing (entry_standing p s t i) st && beq (entry_left_out p s i) out

abbrev pub standing_so : Part → Span → Span → Standing → Bool → ℕ
standing_so p s t st out = length (filter (stands_so p s t st out) (range_with_len 0 (entries_in p s)))

abbrev pub entries_apart : Part → Span → Span → Bool → Apart
entries_apart p s t out =
    record {
      differ = standing_so p s t Differs out;
      only_left = standing_so p s t OnlyLeft out;
      only_right = standing_so p t s OnlyLeft out;
    }
