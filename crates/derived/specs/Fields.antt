-- The other fields that a reading gives, and the six of a Datadog span, with the attributes of Datadog's own before them.
use Rattle.std.specs.Prelude.{ℕ, ◌^◌, cond, List, [], ◌∷◌, ℤ, pos, negsuc, Some, None, codes, Option, nat_lt}
use Rattle.blocks.specs.declared.span_kind.SpanKind.{SpanKind}
use Rattle.blocks.specs.declared.span_kind.SpanKind.TheVariants.{Internal, Server, Client, Producer, Consumer}
use Rattle.readers.specs.Reading.{Reading, number_of}
use Rattle.readers.specs.Texts.{or_else, or_absent, if_given, span_text, res_span_text, first_resource_text}
use Rattle.derived.specs.DatabaseTypes.{database_type}
use Rattle.derived.specs.OperationName.{operation_name}
use Rattle.derived.specs.ResourceName.{resource_name}
use Rattle.readers.specs.Places.{datadog_service, datadog_name, datadog_env, datadog_resource, datadog_type, datadog_http_status_code, span_type as type_key, db_system_name, db_system, service_name as service_key, deployment_environment_name, deployment_environment, http_response_status_code, http_status_code}

-- a client's type: by its database, if it has one
abbrev pub client_type : List ℕ → List ℕ
client_type [] = codes "http"
client_type (x ∷ t) = database_type (x ∷ t)

abbrev pub type_by_kind : Reading → SpanKind → List ℕ
type_by_kind r Server = codes "web"
type_by_kind r Client = client_type (res_span_text r (db_system_name ∷ db_system ∷ []))
type_by_kind r Producer = codes "custom"
type_by_kind r Consumer = codes "custom"
type_by_kind r Internal = codes "custom"

abbrev pub span_type : Reading → List ℕ
span_type r = or_else (res_span_text r (type_key ∷ [])) (type_by_kind r r.kind)

abbrev pub environment : Reading → List ℕ
environment r = or_else (res_span_text r (datadog_env ∷ [])) (first_resource_text r (deployment_environment_name ∷ deployment_environment ∷ []))

-- of the span before the resource
abbrev pub resource_service : Reading → List ℕ
resource_service r = or_else (first_resource_text r (service_key ∷ [])) (codes "otlpresourcenoservicename")

abbrev pub service_name : Reading → List ℕ
service_name r = or_else (span_text r service_key) (resource_service r)

-- a number of 32 bits without a sign; another number is none
abbrev pub narrowed : Option ℤ → Option ℕ
narrowed None = None
narrowed (Some (pos n)) = cond (nat_lt n (2 ^ 32)) (Some n) None
narrowed (Some (negsuc n)) = None

abbrev pub or_number : Option ℕ → Option ℕ → Option ℕ
or_number None b = b
or_number (Some n) b = Some n

abbrev pub code_under : Reading → ℕ → Option ℕ
code_under r k = narrowed (number_of (r.span k))

abbrev pub status_code : Reading → Option ℕ
status_code r = or_number (code_under r http_response_status_code) (code_under r http_status_code)

abbrev pub or_zero : Option ℕ → ℕ
or_zero None = 0
or_zero (Some n) = n

-- an attribute of Datadog's own, unless empty
abbrev pub own_text : Reading → ℕ → Option (List ℕ)
own_text r k = if_given (span_text r k) (span_text r k)

-- the six fields; a status code of 0 is none
abbrev pub field_name : Reading → List ℕ
field_name r = or_absent (own_text r datadog_name) (operation_name r)

abbrev pub field_resource : Reading → List ℕ
field_resource r = or_absent (own_text r datadog_resource) (resource_name r)

abbrev pub field_type : Reading → List ℕ
field_type r = or_else (span_text r datadog_type) (span_type r)

abbrev pub field_service : Reading → List ℕ
field_service r = or_else (span_text r datadog_service) (service_name r)

abbrev pub field_environment : Reading → List ℕ
field_environment r = or_else (span_text r datadog_env) (environment r)

abbrev pub field_status_code : Reading → ℕ
field_status_code r = or_zero (or_number (code_under r datadog_http_status_code) (status_code r))

pub record Fields : Type 0 where
  pub name : List ℕ
  pub resource : List ℕ
  pub type : List ℕ
  pub service : List ℕ
  pub environment : List ℕ
  pub status_code : ℕ

abbrev pub fields : Reading → Fields
fields r =
    record {
      name = field_name r;
      resource = field_resource r;
      type = field_type r;
      service = field_service r;
      environment = field_environment r;
      status_code = field_status_code r;
    }
