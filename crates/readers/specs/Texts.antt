-- Texts in memory, and which of several texts counts.
use Rattle.std.specs.Prelude.{◌≡◌, ℕ, List, [], ◌∷◌, map, length, Some, None, Option}
use Rattle.std.specs.Option.{MatchOption}
use Rattle.lent_bytes.specs.Memory.{padded}
use Rattle.names.specs.declared.attribute_keys.AttributeKey.{AttributeKey}
use Rattle.readers.specs.Reading.{Reading, text_of, bytes_of, size_of}

-- a text at the front of w bytes, whole, with zeros behind; its length is answered
pub record Filled (w : ℕ) (t : List ℕ) (r : ℕ) (after : List ℕ) : Type 0 where
  pub len : r ≡ length t
  pub text : after ≡ padded w t

-- a text that may be absent: if there is one it is at the front of w bytes, and else nothing is said of them
pub record Found (w : ℕ) (o : Option (List ℕ)) (r : Option ℕ) (after : List ℕ) : Type 0 where
  pub size : r ≡ size_of o
  pub text : MatchOption r (Unit {0}) (λ n. after ≡ padded w (bytes_of o))

-- a text that is found, or is empty; where none is found nothing is said of the bytes
abbrev pub Held : ℕ → List ℕ → Option ℕ → List ℕ → Type 0
Held w t r after = MatchOption r (t ≡ []) (λ n. Filled w t n after)

-- a, or b where a is empty
abbrev pub or_else : List ℕ → List ℕ → List ℕ
or_else [] b = b
or_else (x ∷ a) b = x ∷ a

-- a, even if empty, or b where a is absent
abbrev pub or_absent : Option (List ℕ) → List ℕ → List ℕ
or_absent None b = b
or_absent (Some a) b = a

-- a, or b where a is empty, if there is b
abbrev pub or_span : List ℕ → Option (List ℕ) → Option (List ℕ)
or_span [] b = b
or_span (x ∷ a) b = Some (x ∷ a)

-- the name, where the text that it is made of is not empty
abbrev pub if_given : List ℕ → List ℕ → Option (List ℕ)
if_given [] name = None
if_given (x ∷ t) name = Some name

-- a text, if it is not empty
abbrev pub not_empty : List ℕ → Option (List ℕ)
not_empty t = if_given t t

abbrev pub span_text : Reading → ℕ → List ℕ
span_text r k = bytes_of (text_of (r.span k))

abbrev pub resource_text : Reading → ℕ → List ℕ
resource_text r k = bytes_of (r.resource k)

abbrev pub places_of : List AttributeKey → List ℕ
places_of ks = map (λ k. k.idx) ks

-- the text under one key: of the resource unless empty, else of the span, if it has one
abbrev pub res_span_opt : Reading → ℕ → Option (List ℕ)
res_span_opt r k = or_span (resource_text r k) (text_of (r.span k))

-- the first text under the keys: of the resource unless empty, then of the span even if empty
abbrev pub res_span_text : Reading → List ℕ → List ℕ
res_span_text r [] = []
res_span_text r (k ∷ ks) = or_absent (res_span_opt r k) (res_span_text r ks)

-- the length of that text, if there is one
abbrev pub or_size : Option ℕ → Option ℕ → Option ℕ
or_size None b = b
or_size (Some n) b = Some n

abbrev pub res_span_size : Reading → List ℕ → Option ℕ
res_span_size r [] = None
res_span_size r (k ∷ ks) = or_size (size_of (res_span_opt r k)) (res_span_size r ks)

-- the first text under the keys that is not empty, of the texts under all keys
abbrev pub first_text : (ℕ → List ℕ) → List ℕ → List ℕ
first_text t [] = []
first_text t (k ∷ ks) = or_else (t k) (first_text t ks)

-- on the span, and on the resource
abbrev pub first_span_text : Reading → List ℕ → List ℕ
first_span_text r ks = first_text (span_text r) ks

abbrev pub first_resource_text : Reading → List ℕ → List ℕ
first_resource_text r ks = first_text (resource_text r) ks
