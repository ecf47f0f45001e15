-- What is derived from a reading whose texts are UTF-8 is UTF-8.
use Rattle.std.proofs.Common.{ℕ, cond, List, [], ◌∷◌, ◌++◌, Some, None, Option, codes, bytes_eq, IsUtf8, refl}
use Rattle.std.proofs.lemmas.Bool.{cond_both}
use Rattle.std.proofs.lemmas.Str.{IsUtf8-append, IsUtf8-nil}
use Rattle.blocks.specs.declared.span_kind.SpanKind.{SpanKind}
use Rattle.blocks.specs.declared.span_kind.SpanKind.TheVariants.{Internal, Server, Client, Producer, Consumer}
use Rattle.readers.specs.Reading.{Known, Reading, text_of, bytes_of}
use Rattle.readers.specs.Tables.{entry_for}
use Rattle.readers.specs.Texts.{or_else, or_absent, or_span, if_given, span_text, resource_text, res_span_opt, res_span_text, first_text, first_span_text, first_resource_text}
use Rattle.readers.specs.Places.{datadog_env, operation_name as name_key, http_request_method, http_method, db_system, db_system_name, db_statement, db_query_text, messaging_system, messaging_operation, messaging_operation_type, messaging_destination, messaging_destination_name, rpc_system, rpc_service, rpc_method, faas_invoked_provider, faas_invoked_name, faas_trigger, graphql_operation_type, graphql_operation_name, network_protocol_name, resource_name as resource_key, http_route, span_type as type_key, service_name as service_key, deployment_environment_name, deployment_environment}
use Rattle.derived.specs.DatabaseTypes.{database_types}
use Rattle.derived.specs.Fields.{client_type, type_by_kind, span_type, environment, service_name}
use Rattle.derived.specs.OperationName.{lowered, if_both, is_http, query_name, messaging_name, aws_name, rpc_client_name, rpc_server_name, invoked_name, triggered_name, graphql_name, protocol_name, request_name, client_name, server_name, message_name, name_by_kind, operation_name}
use Rattle.derived.specs.ResourceName.{beside, detailed, method_name, route_by, method_of, http_resource, messaging_resource, rpc_resource, graphql_resource, asked_text, only_if, database_resource, given_resource, resource_name}
use Rattle.conversion_law.specs.TextsAreUtf8.{ReadingIsUtf8, DerivesUtf8}
use Rattle.conversion_law.proofs.Utf8.{constant, IfUtf8, entry-utf8, lowered-utf8}

-- which of several texts counts
or-else : (a b : List ℕ) → IsUtf8 a → IsUtf8 b → IsUtf8 (or_else a b)
or-else [] b u v = v
or-else (x ∷ a) b u v = u

pub or-absent : (o : Option (List ℕ)) (b : List ℕ) → IfUtf8 o → IsUtf8 b → IsUtf8 (or_absent o b)
or-absent None b u v = v
or-absent (Some a) b u v = u

or-span : (a : List ℕ) (o : Option (List ℕ)) → IsUtf8 a → IfUtf8 o → IfUtf8 (or_span a o)
or-span [] o u v = v
or-span (x ∷ a) o u v = u

given : (t name : List ℕ) → IsUtf8 name → IfUtf8 (if_given t name)
given [] name u = tt
given (x ∷ t) name u = u

both : (t v name : List ℕ) → IsUtf8 name → IfUtf8 (if_both t v name)
both [] v name u = tt
both (x ∷ t) v name u = given v name u

only : (t : List ℕ) (o : Option (List ℕ)) → IfUtf8 o → IfUtf8 (only_if t o)
only [] o u = tt
only (x ∷ t) o u = u

text-of : (o : Option Known) → IsUtf8 (bytes_of (text_of o)) → IfUtf8 (text_of o)
text-of None u = tt
text-of (Some k) u = u

first : (t : ℕ → List ℕ) → ((k : ℕ) → IsUtf8 (t k)) → (ks : List ℕ) → IsUtf8 (first_text t ks)
first t u [] = IsUtf8-nil
first t u (k ∷ ks) = or-else (t k) (first_text t ks) (u k) (first t u ks)

-- a text before a constant, and behind one
before : (t c : List ℕ) → IsUtf8 c → IsUtf8 t → IsUtf8 (lowered t ++ c)
before t c u v = IsUtf8-append (lowered t) c (lowered-utf8 t v) u

beside-utf8 : (t d : List ℕ) → IsUtf8 t → IsUtf8 d → IsUtf8 (beside t d)
beside-utf8 t [] u v = u
beside-utf8 t (x ∷ d) u v = IsUtf8-append t (codes " " ++ (x ∷ d)) u (IsUtf8-append (codes " ") (x ∷ d) (constant (codes " ") refl) v)

detailed-utf8 : (t d : List ℕ) → IsUtf8 t → IsUtf8 d → IfUtf8 (detailed t d)
detailed-utf8 t d u v = given t (beside t d) (beside-utf8 t d u v)

client-type : (t : List ℕ) → IsUtf8 (client_type t)
client-type [] = constant (codes "http") refl
client-type (x ∷ t) = or-absent (entry_for (x ∷ t) database_types) (codes "db") (entry-utf8 (x ∷ t) database_types refl) (constant (codes "db") refl)

module _ (r : Reading) (h : ReadingIsUtf8 r) where
  first-own : (ks : List ℕ) → IsUtf8 (first_span_text r ks)
  first-own ks = first (span_text r) h.on_span ks

  either : (ks : List ℕ) → IsUtf8 (res_span_text r ks)
  either [] = IsUtf8-nil
  either (k ∷ ks) =
      or-absent (res_span_opt r k) (res_span_text r ks) (or-span (resource_text r k) (text_of (r.span k)) (h.on_resource k) (text-of (r.span k) (h.on_span k))) (either ks)

  -- the operation name
  query : IfUtf8 (query_name r)
  query =
      let t = first_span_text r (db_system ∷ db_system_name ∷ []) in
      given t (lowered t ++ codes ".query") (before t (codes ".query") (constant (codes ".query") refl) (first-own (db_system ∷ db_system_name ∷ [])))

  messaging : IfUtf8 (messaging_name r)
  messaging =
      let s = span_text r messaging_system in
      let ks : List ℕ = messaging_operation ∷ messaging_operation_type ∷ [] in
      let t = first_span_text r ks in
      both s t (lowered s ++ (codes "." ++ lowered t))
      (before s (codes "." ++ lowered t) (IsUtf8-append (codes ".") (lowered t) (constant (codes ".") refl) (lowered-utf8 t (first-own ks))) (h.on_span messaging_system))

  aws : IsUtf8 (aws_name r)
  aws =
      let s = span_text r rpc_service in
      let name : List ℕ = codes "aws." ++ (lowered s ++ codes ".request") in
      or-absent (if_given s name) (codes "aws.client.request")
      (given s name (IsUtf8-append (codes "aws.") (lowered s ++ codes ".request") (constant (codes "aws.") refl) (before s (codes ".request") (constant (codes ".request") refl) (h.on_span rpc_service))))
      (constant (codes "aws.client.request") refl)

  rpc-client : IfUtf8 (rpc_client_name r)
  rpc-client =
      let s = span_text r rpc_system in
      let name : List ℕ = lowered s ++ codes ".client.request" in
      given s (cond (bytes_eq s (codes "aws-api")) (aws_name r) name)
      (cond_both (bytes_eq s (codes "aws-api")) (aws_name r) name IsUtf8 (λ t. aws) (λ f. before s (codes ".client.request") (constant (codes ".client.request") refl) (h.on_span rpc_system)))

  rpc-server : IfUtf8 (rpc_server_name r)
  rpc-server =
      let s = span_text r rpc_system in
      given s (lowered s ++ codes ".server.request") (before s (codes ".server.request") (constant (codes ".server.request") refl) (h.on_span rpc_system))

  invoked : IfUtf8 (invoked_name r)
  invoked =
      let s = span_text r faas_invoked_provider in
      let t = span_text r faas_invoked_name in
      let end : List ℕ = lowered t ++ codes ".invoke" in
      both s t (lowered s ++ (codes "." ++ end))
      (before s (codes "." ++ end) (IsUtf8-append (codes ".") end (constant (codes ".") refl) (before t (codes ".invoke") (constant (codes ".invoke") refl) (h.on_span faas_invoked_name))) (h.on_span faas_invoked_provider))

  triggered : IfUtf8 (triggered_name r)
  triggered =
      let s = span_text r faas_trigger in
      given s (lowered s ++ codes ".invoke") (before s (codes ".invoke") (constant (codes ".invoke") refl) (h.on_span faas_trigger))

  graphql : IfUtf8 (graphql_name r)
  graphql = given (span_text r graphql_operation_type) (codes "graphql.server.request") (constant (codes "graphql.server.request") refl)

  protocol : (t : List ℕ) → IsUtf8 t → IfUtf8 (protocol_name r t)
  protocol t u =
      let s = span_text r network_protocol_name in
      given s (lowered s ++ (codes "." ++ t)) (before s (codes "." ++ t) (IsUtf8-append (codes ".") t (constant (codes ".") refl) u) (h.on_span network_protocol_name))

  request : (t : List ℕ) → IsUtf8 t → IsUtf8 (request_name r t)
  request t u = or-absent (graphql_name r) (or_absent (protocol_name r t) t) graphql (or-absent (protocol_name r t) t (protocol t u) u)

  client : IsUtf8 (client_name r)
  client =
      let last : List ℕ = request_name r (codes "client.request") in
      let third : List ℕ = or_absent (invoked_name r) last in
      let second : List ℕ = or_absent (rpc_client_name r) third in
      or-absent (query_name r) (or_absent (messaging_name r) second) query (or-absent (messaging_name r) second messaging (or-absent (rpc_client_name r) third rpc-client (or-absent (invoked_name r) last invoked (request (codes "client.request") (constant (codes "client.request") refl)))))

  server : IsUtf8 (server_name r)
  server =
      let last : List ℕ = request_name r (codes "server.request") in
      let second : List ℕ = or_absent (triggered_name r) last in
      or-absent (messaging_name r) (or_absent (rpc_server_name r) second) messaging (or-absent (rpc_server_name r) second rpc-server (or-absent (triggered_name r) last triggered (request (codes "server.request") (constant (codes "server.request") refl))))

  message : (t : List ℕ) → IsUtf8 t → IsUtf8 (message_name r t)
  message t u = or-absent (messaging_name r) (or_absent (graphql_name r) t) messaging (or-absent (graphql_name r) t graphql u)

  name-by-kind : (k : SpanKind) → IsUtf8 (name_by_kind r k)
  name-by-kind Client = cond_both (is_http r) (codes "http.client.request") (client_name r) IsUtf8 (λ t. constant (codes "http.client.request") refl) (λ f. client)
  name-by-kind Server = cond_both (is_http r) (codes "http.server.request") (server_name r) IsUtf8 (λ t. constant (codes "http.server.request") refl) (λ f. server)
  name-by-kind Producer = message (codes "producer") (constant (codes "producer") refl)
  name-by-kind Consumer = message (codes "consumer") (constant (codes "consumer") refl)
  name-by-kind Internal = or-absent (graphql_name r) (codes "internal") graphql (constant (codes "internal") refl)

  operation : IsUtf8 (operation_name r)
  operation = or-absent (text_of (r.span name_key)) (name_by_kind r r.kind) (text-of (r.span name_key) (h.on_span name_key)) (name-by-kind r.kind)

  -- the resource name
  route : (k : SpanKind) → IsUtf8 (route_by r k)
  route Server = either (http_route ∷ [])
  route Client = IsUtf8-nil
  route Producer = IsUtf8-nil
  route Consumer = IsUtf8-nil
  route Internal = IsUtf8-nil

  method-name : (t : List ℕ) → IsUtf8 t → IsUtf8 (method_name t)
  method-name t u = cond_both (bytes_eq t (codes "_OTHER")) (codes "HTTP") t IsUtf8 (λ e. constant (codes "HTTP") refl) (λ e. u)

  http : IfUtf8 (http_resource r)
  http =
      let t = method_of r in
      given t (beside (method_name t) (route_by r r.kind)) (beside-utf8 (method_name t) (route_by r r.kind) (method-name t (either (http_request_method ∷ http_method ∷ []))) (route r.kind))

  detail : (ks js : List ℕ) → IfUtf8 (detailed (res_span_text r ks) (res_span_text r js))
  detail ks js = detailed-utf8 (res_span_text r ks) (res_span_text r js) (either ks) (either js)

  asked : IsUtf8 (asked_text r)
  asked = or-else (res_span_text r (db_statement ∷ [])) (res_span_text r (db_query_text ∷ [])) (either (db_statement ∷ [])) (either (db_query_text ∷ []))

  database : IfUtf8 (database_resource r)
  database = only (res_span_text r (db_system_name ∷ db_system ∷ [])) (if_given (asked_text r) (asked_text r)) (given (asked_text r) (asked_text r) asked)

  given-resource : IfUtf8 (given_resource r)
  given-resource = let t = res_span_text r (resource_key ∷ []) in given t t (either (resource_key ∷ []))

  resource : IsUtf8 (resource_name r)
  resource =
      let third : List ℕ = or_absent (database_resource r) r.name in
      let second : List ℕ = or_absent (graphql_resource r) third in
      let first : List ℕ = or_absent (rpc_resource r) second in
      or-absent (given_resource r) (or_absent (http_resource r) (or_absent (messaging_resource r) first)) given-resource
      (or-absent (http_resource r) (or_absent (messaging_resource r) first) http
      (or-absent (messaging_resource r) first (detail (messaging_operation_type ∷ messaging_operation ∷ []) (messaging_destination ∷ messaging_destination_name ∷ []))
      (or-absent (rpc_resource r) second (detail (rpc_method ∷ []) (rpc_service ∷ []))
      (or-absent (graphql_resource r) third (detail (graphql_operation_type ∷ []) (graphql_operation_name ∷ [])) (or-absent (database_resource r) r.name database h.name)))))

  -- type, environment and service
  type-by-kind : (k : SpanKind) → IsUtf8 (type_by_kind r k)
  type-by-kind Server = constant (codes "web") refl
  type-by-kind Client = client-type (res_span_text r (db_system_name ∷ db_system ∷ []))
  type-by-kind Producer = constant (codes "custom") refl
  type-by-kind Consumer = constant (codes "custom") refl
  type-by-kind Internal = constant (codes "custom") refl

  own-type : IsUtf8 (span_type r)
  own-type = or-else (res_span_text r (type_key ∷ [])) (type_by_kind r r.kind) (either (type_key ∷ [])) (type-by-kind r.kind)

  own-environment : IsUtf8 (environment r)
  own-environment =
      let ks : List ℕ = deployment_environment_name ∷ deployment_environment ∷ [] in
      or-else (res_span_text r (datadog_env ∷ [])) (first_resource_text r ks) (either (datadog_env ∷ [])) (first (resource_text r) h.on_resource ks)

  service : IsUtf8 (service_name r)
  service =
      let t = first_resource_text r (service_key ∷ []) in
      let none = codes "otlpresourcenoservicename" in
      or-else (span_text r service_key) (or_else t none) (h.on_span service_key) (or-else t none (first (resource_text r) h.on_resource (service_key ∷ [])) (constant none refl))

pub derives_utf8_lem : DerivesUtf8
derives_utf8_lem r h = record { service = service r h; name = operation r h; resource = resource r h; type = own-type r h; environment = own-environment r h }
