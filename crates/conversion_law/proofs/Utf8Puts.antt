-- A span whose texts are UTF-8, and each put of such a key and text.
use Rattle.std.proofs.Common.{ℕ, Bool, true, false, cond, ◌&&◌, is_some, Some, None, Option, codes, bytes_eq, refl}
use Rattle.std.specs.List.{AllByRecursion}
use Rattle.names.specs.Conventions.{sampling_rate_name}
use Rattle.conversion.specs.Spans.{Text, quoted, bytes_of, Span, found}
use Rattle.conversion.specs.Forms.{parsed_bool, one}
use Rattle.conversion.specs.Steps.{put_meta, put_again, put_metric, put_given, put_text, put_number, put_sampling, is_empty, is_meta_key, says_something}
use Rattle.conversion_law.specs.TextsAreUtf8.{Utf8Text, Utf8Link}
use Rattle.conversion_law.proofs.Utf8.{constant}
use Rattle.conversion_law.proofs.Utf8Rows.{Entries, entries-put, Utf8Told}

-- a span so far
abbrev pub FourTexts : Span → Type 0
FourTexts s = Utf8Text s.service × (Utf8Text s.name × (Utf8Text s.resource × Utf8Text s.type))

abbrev pub Numbered : ℕ → Type 0
Numbered p = Unit {0}

pub record Utf8Span (s : Span) : Type 0 where
  pub texts : FourTexts s
  pub meta : Entries Utf8Text Utf8Text s.meta
  pub metrics : Entries Utf8Text Numbered s.metrics
  pub links : AllByRecursion Utf8Link s.links
  pub events : AllByRecursion Utf8Told s.events

pub test : (b : Bool) (s t : Span) → Utf8Span s → Utf8Span t → Utf8Span (cond b s t)
test true s t g h = g
test false s t g h = h

module _ (s : Span) (h : Utf8Span s) where
  pub metric : (k : Text) (v : ℕ) → Utf8Text k → Utf8Span (put_metric k v s)
  unfolding put_metric
  metric k v a = record { texts = h.texts; meta = h.meta; metrics = entries-put Utf8Text Numbered 130 k v s.metrics a tt h.metrics; links = h.links; events = h.events }

  sampling : (b : Option Bool) → Utf8Span (put_sampling b s)
  unfolding put_sampling
  sampling None = h
  sampling (Some b) = metric (quoted sampling_rate_name) (cond b one 0) (constant sampling_rate_name refl)

  pub number : (k : Text) (v : ℕ) → Utf8Text k → Utf8Span (put_number k v s)
  unfolding put_number
  number k v a =
      let priority = codes "_sampling_priority_v1" in
      test (is_empty (bytes_of k)) s _ h
      (test (is_meta_key (bytes_of k) && is_some (found (bytes_of k) s.metrics)) s _ h
      (test (bytes_eq (bytes_of k) (codes "sampling.priority")) _ _ (metric (quoted priority) v (constant priority refl)) (metric k v a)))

  -- in a table of meta of n rows
  module _ (n : ℕ) where
    pub meta : (k v : Text) → Utf8Text k → Utf8Text v → Utf8Span (put_meta n k v s)
    unfolding put_meta
    meta k v a b = record { texts = h.texts; meta = entries-put Utf8Text Utf8Text n k v s.meta a b h.meta; metrics = h.metrics; links = h.links; events = h.events }

    pub again : (k v : Text) → Utf8Text k → Utf8Text v → Utf8Span (put_again n k v s)
    unfolding put_again
    again k v a b = record { texts = h.texts; meta = entries-put Utf8Text Utf8Text n k v s.meta a b h.meta; metrics = h.metrics; links = h.links; events = h.events }

    pub given : (k v : Text) → Utf8Text k → Utf8Text v → Utf8Span (put_given n k v s)
    unfolding put_given
    given k v a b = test (is_empty (bytes_of v)) s _ h (meta k v a b)

    pub text : (k v : Text) → Utf8Text k → Utf8Text v → Utf8Span (put_text n k v s)
    unfolding put_text
    text k v a b =
        test (is_empty (bytes_of k)) s _ h
        (test (is_meta_key (bytes_of k) && says_something (found (bytes_of k) s.meta)) s _ h
        (test (bytes_eq (bytes_of k) (codes "analytics.event")) _ _ (sampling (parsed_bool (bytes_of v))) (meta k v a b)))
