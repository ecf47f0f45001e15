-- The resource name: what the span worked on.
use Rattle.std.specs.Prelude.{ℕ, cond, List, [], ◌∷◌, ◌++◌, None, codes, Option}
use Rattle.std.specs.Str.{bytes_eq}
use Rattle.blocks.specs.declared.span_kind.SpanKind.{SpanKind}
use Rattle.blocks.specs.declared.span_kind.SpanKind.TheVariants.{Internal, Server, Client, Producer, Consumer}
use Rattle.readers.specs.Reading.{Reading}
use Rattle.readers.specs.Texts.{or_else, or_absent, if_given, res_span_text}
use Rattle.readers.specs.Places.{resource_name as resource_key, http_request_method, http_method, http_route, messaging_operation_type, messaging_operation, messaging_destination, messaging_destination_name, rpc_method, rpc_service, graphql_operation_type, graphql_operation_name, db_system_name, db_system, db_statement, db_query_text}

-- a text with a detail behind it, if there is one
abbrev pub beside : List ℕ → List ℕ → List ℕ
beside t [] = t
beside t (x ∷ d) = t ++ (codes " " ++ (x ∷ d))

abbrev pub detailed : List ℕ → List ℕ → Option (List ℕ)
detailed t d = if_given t (beside t d)

-- a method that has no name of its own
abbrev pub method_name : List ℕ → List ℕ
method_name m = cond (bytes_eq m (codes "_OTHER")) (codes "HTTP") m

-- only a server knows its route
abbrev pub route_by : Reading → SpanKind → List ℕ
route_by r Server = res_span_text r (http_route ∷ [])
route_by r Client = []
route_by r Producer = []
route_by r Consumer = []
route_by r Internal = []

abbrev pub method_of : Reading → List ℕ
method_of r = res_span_text r (http_request_method ∷ http_method ∷ [])

-- `GET /users`
abbrev pub http_resource : Reading → Option (List ℕ)
http_resource r = if_given (method_of r) (beside (method_name (method_of r)) (route_by r r.kind))

-- `publish orders`
abbrev pub messaging_resource : Reading → Option (List ℕ)
messaging_resource r = detailed (res_span_text r (messaging_operation_type ∷ messaging_operation ∷ [])) (res_span_text r (messaging_destination ∷ messaging_destination_name ∷ []))

abbrev pub rpc_resource : Reading → Option (List ℕ)
rpc_resource r = detailed (res_span_text r (rpc_method ∷ [])) (res_span_text r (rpc_service ∷ []))

abbrev pub graphql_resource : Reading → Option (List ℕ)
graphql_resource r = detailed (res_span_text r (graphql_operation_type ∷ [])) (res_span_text r (graphql_operation_name ∷ []))

-- what a database was asked
abbrev pub asked_text : Reading → List ℕ
asked_text r = or_else (res_span_text r (db_statement ∷ [])) (res_span_text r (db_query_text ∷ []))

abbrev pub only_if : List ℕ → Option (List ℕ) → Option (List ℕ)
only_if [] o = None
only_if (x ∷ t) o = o

abbrev pub database_resource : Reading → Option (List ℕ)
database_resource r = only_if (res_span_text r (db_system_name ∷ db_system ∷ [])) (if_given (asked_text r) (asked_text r))

abbrev pub given_resource : Reading → Option (List ℕ)
given_resource r = if_given (res_span_text r (resource_key ∷ [])) (res_span_text r (resource_key ∷ []))

-- by a call, a query or, last, the span's own name
abbrev pub resource_by_use : Reading → List ℕ
resource_by_use r = or_absent (rpc_resource r) (or_absent (graphql_resource r) (or_absent (database_resource r) r.name))

abbrev pub resource_name : Reading → List ℕ
resource_name r = or_absent (given_resource r) (or_absent (http_resource r) (or_absent (messaging_resource r) (resource_by_use r)))
