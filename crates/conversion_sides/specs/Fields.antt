-- The single fields of two spans beside each other.
use Rattle.std.specs.Prelude.{ℕ, Bool, false, List, [], ◌∷◌, filter, length, ℤ, ◌==◌}
use Rattle.std.specs.Ordering.{int_eq}
use Rattle.std.specs.Str.{bytes_eq}
use Rattle.conversion.specs.Spans.{bytes_of, Span}
use Rattle.conversion_sides.specs.declared.standing.Standing.{Standing}
use Rattle.conversion_sides.specs.declared.standing.Standing.TheVariants.{Differs}
use Rattle.conversion_sides.specs.declared.fields.Field.{Field}
use Rattle.conversion_sides.specs.declared.fields.Field.TheVariants.{Service, Name, Resource, SpanType, TraceId, SpanId, ParentId, Start, Duration, Error}
use Rattle.conversion_sides.specs.declared.fields.FieldValue.{FieldValue}
use Rattle.conversion_sides.specs.declared.fields.FieldValue.TheVariants.{Text, Id, Number}
use Rattle.conversion_sides.specs.Standings.{sameness, is_standing}

-- what a field holds
pub data FieldSeen : Type 0 where
  text : List ℕ → FieldSeen
  id : ℕ → FieldSeen
  number : ℤ → FieldSeen

abbrev pub value_seen : FieldValue → FieldSeen
value_seen (Text t) = text t.now
value_seen (Id n) = id n
value_seen (Number z) = number z

abbrev pub field_in : Field → Span → FieldSeen
field_in Service s = text (bytes_of s.service)
field_in Name s = text (bytes_of s.name)
field_in Resource s = text (bytes_of s.resource)
field_in SpanType s = text (bytes_of s.type)
field_in TraceId s = id s.trace_id
field_in SpanId s = id s.span_id
field_in ParentId s = id s.parent_id
field_in Start s = number s.start
field_in Duration s = number s.duration
field_in Error s = number s.error

abbrev pub same_field : FieldSeen → FieldSeen → Bool
same_field (text x) (text y) = bytes_eq x y
same_field (text x) (id y) = false
same_field (text x) (number y) = false
same_field (id x) (text y) = false
same_field (id x) (id y) = x == y
same_field (id x) (number y) = false
same_field (number x) (text y) = false
same_field (number x) (id y) = false
same_field (number x) (number y) = int_eq x y

abbrev pub field_standing : Field → Span → Span → Standing
field_standing f s t = sameness (same_field (field_in f s) (field_in f t))

abbrev pub all_fields : List Field
all_fields = Service ∷ Name ∷ Resource ∷ SpanType ∷ TraceId ∷ SpanId ∷ ParentId ∷ Start ∷ Duration ∷ Error ∷ []

-- how many fields differ
unfoldable pub fields_apart : Span → Span → ℕ
fields_apart s t = length (filter (λ f. is_standing (field_standing f s t) Differs) all_fields)
