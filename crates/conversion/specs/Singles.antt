-- The four texts outside the tables: each by its name.
use Rattle.std.specs.Prelude.{ℕ, List, ◌++◌}
use Rattle.readers.specs.Reading.{Reading}
use Rattle.readers.specs.Places.{datadog_service, datadog_name, datadog_resource, datadog_type}
use Rattle.derived.specs.Fields.{service_name, span_type}
use Rattle.derived.specs.OperationName.{operation_name}
use Rattle.derived.specs.ResourceName.{resource_name}
use Rattle.conversion.specs.Spans.{Text, Span, placed}
use Rattle.conversion.specs.declared.singles.Single.{Single}
use Rattle.conversion.specs.declared.singles.Single.TheVariants.{Service, Name, Resource, SpanType}

abbrev pub own_key : Single → ℕ
own_key Service = datadog_service
own_key Name = datadog_name
own_key Resource = datadog_resource
own_key SpanType = datadog_type

abbrev pub derived_text : Single → Reading → List ℕ
derived_text Service r = service_name r
derived_text Name r = operation_name r
derived_text Resource r = resource_name r
derived_text SpanType r = span_type r

abbrev pub single_of : Single → Span → Text
single_of Service s = s.service
single_of Name s = s.name
single_of Resource s = s.resource
single_of SpanType s = s.type

unfoldable pub with_single : Single → List ℕ → Span → Span
with_single Service t s = record s { service = placed t; arena = s.arena ++ t }
with_single Name t s = record s { name = placed t; arena = s.arena ++ t }
with_single Resource t s = record s { resource = placed t; arena = s.arena ++ t }
with_single SpanType t s = record s { type = placed t; arena = s.arena ++ t }
