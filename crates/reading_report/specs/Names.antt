-- The six fields by name, and what a reading gives for each.
use Rattle.std.specs.Prelude.{◌≡◌, ℕ, List, [], ◌∷◌, codes, Some, Option}
use Rattle.std.specs.List.{find}
use Rattle.std.specs.Str.{bytes_eq}
use Rattle.readers.specs.Reading.{Reading}
use Rattle.derived.specs.Fields.{field_name, field_resource, field_type, field_service, field_environment, field_status_code}
use Rattle.reading_report.specs.declared.field.Field.{Field}
use Rattle.reading_report.specs.declared.field.Field.TheVariants.{Name, Resource, SpanType, Service, Environment, StatusCode}
use Rattle.reading_report.specs.declared.field.FieldValue.{FieldValue}
use Rattle.reading_report.specs.declared.field.FieldValue.TheVariants.{Text, Code}

abbrev pub field_word : Field → List ℕ
field_word Name = codes "name"
field_word Resource = codes "resource"
field_word SpanType = codes "type"
field_word Service = codes "service"
field_word Environment = codes "environment"
field_word StatusCode = codes "status_code"

-- the field that a word names
abbrev pub field_in : List ℕ → Option Field
field_in word =
    find (λ f. bytes_eq (field_word f) word) (Name ∷ Resource ∷ SpanType ∷ Service ∷ Environment ∷ StatusCode ∷ [])

-- each field's word is read as that field
abbrev pub NamesReadBack : Type 0
NamesReadBack = (f : Field) → field_in (field_word f) ≡ Some f

-- a text, or a number
pub data Said : Type 0 where
  text : List ℕ → Said
  number : ℕ → Said

abbrev pub said : FieldValue → Said
said (Text t) = text t.now
said (Code n) = number n

abbrev pub field_said : Field → Reading → Said
field_said Name r = text (field_name r)
field_said Resource r = text (field_resource r)
field_said SpanType r = text (field_type r)
field_said Service r = text (field_service r)
field_said Environment r = text (field_environment r)
field_said StatusCode r = number (field_status_code r)
