-- The fields of a reading are those of the reading with its older names put as later, so equal readings give equal fields.
use Rattle.std.proofs.Common.{◌≡◌, ℕ, ◌<◌, cond, ltb, [], ◌∷◌, ◌++◌, codes, Option, sym, refl, ap, ◌∙◌, ⊎_elim}
use mathlib.Core.Path.{fun_ext}
use Rattle.std.proofs.lemmas.Bool.{cases_Bool, ltb-true, cond-false}
use Rattle.blocks.specs.declared.span_kind.SpanKind.{SpanKind}
use Rattle.blocks.specs.declared.span_kind.SpanKind.TheVariants.{Internal, Server, Client, Producer, Consumer}
use Rattle.readers.specs.Reading.{Reading, text_of}
use Rattle.readers.specs.Texts.{or_else, or_absent, if_given, span_text, res_span_text}
use Rattle.derived.specs.OperationName.{operation_name, lowered, if_both, is_http, query_name, messaging_name, rpc_client_name, rpc_server_name, invoked_name, triggered_name, graphql_name, request_name, client_name, server_name, name_by_kind}
use Rattle.derived.specs.ResourceName.{resource_name, beside, detailed, method_name, method_of, route_by, http_resource, messaging_resource, rpc_resource, graphql_resource, asked_text, only_if, database_resource, given_resource, resource_by_use}
use Rattle.derived.specs.Fields.{span_type, environment, client_type, type_by_kind, code_under, or_number, or_zero, field_status_code, fields}
use Rattle.readers.specs.Places.{http_method, http_request_method, http_status_code, http_response_status_code, db_system, db_system_name, db_statement, db_query_text, messaging_system, messaging_operation, messaging_operation_type, messaging_destination, messaging_destination_name, deployment_environment, deployment_environment_name, datadog_env, datadog_http_status_code, span_type as type_key, operation_name as name_key}
use Rattle.reader_laws.specs.Alike.{Names, renamings, in_later_names, Alike, UsedDoubly, NoneDoubly, DeriveAlike}
use Rattle.reader_laws.proofs.Pairs.{SamePair, same-pair}

-- the reading with its older names put as later
abbrev pub later : Reading → Reading
later r = record { name = r.name; kind = r.kind; span = in_later_names r.span; resource = in_later_names r.resource }

-- what names of pairs bear on: the same of both
pub record Once (r : Reading) : Type 0 where
  pub name : operation_name (later r) ≡ operation_name r
  pub resource : resource_name (later r) ≡ resource_name r
  pub type : span_type (later r) ≡ span_type r
  pub environment : environment (later r) ≡ environment r
  pub status_code : field_status_code (later r) ≡ field_status_code r

-- of one pair
abbrev Pair : Reading → ℕ → ℕ → Type 0
Pair r o l = SamePair (r.span o) (r.span l) (r.resource o) (r.resource l)

pair : (r : Reading) (p : Names) → (UsedDoubly r p → ⊥) → Pair r p.older p.later
pair r p h = same-pair (r.span p.older) (r.span p.later) (r.resource p.older) (r.resource p.later) (λ x y. h (x, y))

module _ (r : Reading) (method : Pair r http_method http_request_method) (status : Pair r http_status_code http_response_status_code) (system : Pair r db_system db_system_name) (statement : Pair r db_statement db_query_text) (operation : Pair r messaging_operation messaging_operation_type) (destination : Pair r messaging_destination messaging_destination_name) (deployment : Pair r deployment_environment deployment_environment_name) where
  -- the operation name
  query : query_name (later r) ≡ query_name r
  query = ap (λ t. if_given t (lowered t ++ codes ".query")) (sym system.of_span)

  messaging : messaging_name (later r) ≡ messaging_name r
  messaging = ap (λ t. if_both (span_text r messaging_system) t (lowered (span_text r messaging_system) ++ (codes "." ++ lowered t))) (sym operation.of_span)

  client : client_name (later r) ≡ client_name r
  client =
      ap (λ o. or_absent o (or_absent (messaging_name (later r)) (or_absent (rpc_client_name r) (or_absent (invoked_name r) (request_name r (codes "client.request")))))) query
      ∙ ap (λ o. or_absent (query_name r) (or_absent o (or_absent (rpc_client_name r) (or_absent (invoked_name r) (request_name r (codes "client.request")))))) messaging

  server : server_name (later r) ≡ server_name r
  server = ap (λ o. or_absent o (or_absent (rpc_server_name r) (or_absent (triggered_name r) (request_name r (codes "server.request"))))) messaging

  by_kind : (k : SpanKind) → name_by_kind (later r) k ≡ name_by_kind r k
  by_kind Client = ap (λ b. cond b (codes "http.client.request") (client_name (later r))) (sym method.present) ∙ ap (cond (is_http r) (codes "http.client.request")) client
  by_kind Server = ap (λ b. cond b (codes "http.server.request") (server_name (later r))) (sym method.present) ∙ ap (cond (is_http r) (codes "http.server.request")) server
  by_kind Producer = ap (λ o. or_absent o (or_absent (graphql_name r) (codes "producer"))) messaging
  by_kind Consumer = ap (λ o. or_absent o (or_absent (graphql_name r) (codes "consumer"))) messaging
  by_kind Internal = refl

  name : operation_name (later r) ≡ operation_name r
  name = ap (or_absent (text_of (r.span name_key))) (by_kind r.kind)

  -- the resource name
  route : (k : SpanKind) → route_by (later r) k ≡ route_by r k
  route Server = refl
  route Client = refl
  route Producer = refl
  route Consumer = refl
  route Internal = refl

  http : http_resource (later r) ≡ http_resource r
  http =
      ap (λ m. if_given m (beside (method_name m) (route_by (later r) r.kind))) (sym method.later_first)
      ∙ ap (λ d. if_given (method_of r) (beside (method_name (method_of r)) d)) (route r.kind)

  message : messaging_resource (later r) ≡ messaging_resource r
  message =
      ap (λ t. detailed t (res_span_text (later r) (messaging_destination ∷ messaging_destination_name ∷ []))) (sym operation.later_first)
      ∙ ap (detailed (res_span_text r (messaging_operation_type ∷ messaging_operation ∷ []))) (sym destination.older_first)

  asked : asked_text (later r) ≡ asked_text r
  asked = sym statement.one_by_one

  database : database_resource (later r) ≡ database_resource r
  database =
      ap (λ t. only_if t (if_given (asked_text (later r)) (asked_text (later r)))) (sym system.later_first)
      ∙ ap (λ t. only_if (res_span_text r (db_system_name ∷ db_system ∷ [])) (if_given t t)) asked

  resource : resource_name (later r) ≡ resource_name r
  resource =
      ap (λ o. or_absent (given_resource r) (or_absent o (or_absent (messaging_resource (later r)) (resource_by_use (later r))))) http
      ∙ ap (λ o. or_absent (given_resource r) (or_absent (http_resource r) (or_absent o (resource_by_use (later r))))) message
      ∙ ap (λ o. or_absent (given_resource r) (or_absent (http_resource r) (or_absent (messaging_resource r) (or_absent (rpc_resource r) (or_absent (graphql_resource r) (or_absent o r.name)))))) database

  -- the others
  type-by-kind : (k : SpanKind) → type_by_kind (later r) k ≡ type_by_kind r k
  type-by-kind Server = refl
  type-by-kind Client = ap client_type (sym system.later_first)
  type-by-kind Producer = refl
  type-by-kind Consumer = refl
  type-by-kind Internal = refl

  type : span_type (later r) ≡ span_type r
  type = ap (or_else (res_span_text r (type_key ∷ []))) (type-by-kind r.kind)

  env : environment (later r) ≡ environment r
  env = ap (or_else (res_span_text r (datadog_env ∷ []))) (sym deployment.of_resource)

  code : field_status_code (later r) ≡ field_status_code r
  code = ap (λ n. or_zero (or_number (code_under r datadog_http_status_code) n)) (sym status.number)

  all : Once r
  all = record { name = name; resource = resource; type = type; environment = env; status_code = code }

-- what is derived of a reading is derived of it with its older names put as later
pub once : (r : Reading) → NoneDoubly r renamings → Once r
once r (method, (status, (system, (statement, (operation, (destination, (deployment, u))))))) = all r (pair r _ method) (pair r _ status) (pair r _ system) (pair r _ statement) (pair r _ operation) (pair r _ destination) (pair r _ deployment)

-- what is said of every known key is said
known-keys : {X : Type 0} (f g : ℕ → Option X) → ((k : ℕ) → k < 43 → in_later_names f k ≡ in_later_names g k) → in_later_names f ≡ in_later_names g
known-keys f g h = fun_ext (λ k. ⊎_elim (λ t. h k (ltb-true k 43 t)) (λ n. cond-false (ltb k 43) _ _ n ∙ sym (cond-false (ltb k 43) _ _ n)) (cases_Bool (ltb k 43)))

pub same-later : (a b : Reading) → Alike a b → later a ≡ later b
same-later a b h =
    let s = known-keys a.span b.span h.span in
    let t = known-keys a.resource b.resource h.resource in
    rw (h.name, h.kind, s, t)

-- so what is the same of both is equal for readings that say the same
pub derived_alike : {X : Type 0} (derived : Reading → X) (a b : Reading) → Alike a b → derived (later a) ≡ derived a → derived (later b) ≡ derived b → derived a ≡ derived b
derived_alike derived a b h p q = sym p ∙ ap derived (same-later a b h) ∙ q

all-fields : (r : Reading) → Once r → fields (later r) ≡ fields r
all-fields r o = let n = o.name in let e = o.resource in let t = o.type in let v = o.environment in let c = o.status_code in rw (n, e, t, v, c)

pub derive_alike_lem : (a b : Reading) → DeriveAlike a b
derive_alike_lem a b h p q = derived_alike fields a b h (all-fields a (once a p)) (all-fields b (once b q))
