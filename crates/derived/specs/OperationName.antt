-- The operation name: an attribute of its own, or else by the kind of the span and the attributes present.
use Rattle.std.specs.Prelude.{ℕ, Bool, cond, ◌||◌, List, [], ◌∷◌, ◌++◌, map, is_some, None, codes, Option}
use Rattle.std.specs.Char.{to_ascii_lowercase}
use Rattle.std.specs.Str.{bytes_eq}
use Rattle.blocks.specs.declared.span_kind.SpanKind.{SpanKind}
use Rattle.blocks.specs.declared.span_kind.SpanKind.TheVariants.{Internal, Server, Client, Producer, Consumer}
use Rattle.readers.specs.Reading.{Reading, text_of}
use Rattle.readers.specs.Texts.{or_absent, if_given, span_text, first_span_text}
use Rattle.readers.specs.Places.{operation_name as name_key, http_request_method, http_method, db_system, db_system_name, messaging_system, messaging_operation, messaging_operation_type, rpc_system, rpc_service, faas_invoked_provider, faas_invoked_name, faas_trigger, graphql_operation_type, network_protocol_name}

abbrev pub lowered : List ℕ → List ℕ
lowered t = map to_ascii_lowercase t

-- the name, where neither of the two texts that it is made of is empty
abbrev pub if_both : List ℕ → List ℕ → List ℕ → Option (List ℕ)
if_both [] u name = None
if_both (x ∷ t) u name = if_given u name

abbrev pub is_http : Reading → Bool
is_http r = is_some (r.span http_method) || is_some (r.span http_request_method)

-- `postgresql.query`
abbrev pub query_name : Reading → Option (List ℕ)
query_name r = if_given (first_span_text r (db_system ∷ db_system_name ∷ [])) (lowered (first_span_text r (db_system ∷ db_system_name ∷ [])) ++ codes ".query")

-- `kafka.publish`
abbrev pub messaging_name : Reading → Option (List ℕ)
messaging_name r =
    if_both (span_text r messaging_system) (first_span_text r (messaging_operation ∷ messaging_operation_type ∷ []))
    (lowered (span_text r messaging_system) ++ (codes "." ++ lowered (first_span_text r (messaging_operation ∷ messaging_operation_type ∷ []))))

-- `aws.s3.request`
abbrev pub aws_name : Reading → List ℕ
aws_name r = or_absent (if_given (span_text r rpc_service) (codes "aws." ++ (lowered (span_text r rpc_service) ++ codes ".request"))) (codes "aws.client.request")

-- `grpc.client.request`, but for the interface of AWS
abbrev pub rpc_client_name : Reading → Option (List ℕ)
rpc_client_name r = if_given (span_text r rpc_system) (cond (bytes_eq (span_text r rpc_system) (codes "aws-api")) (aws_name r) (lowered (span_text r rpc_system) ++ codes ".client.request"))

-- a text with a word behind it
abbrev pub named_after : Reading → ℕ → List ℕ → Option (List ℕ)
named_after r k word = if_given (span_text r k) (lowered (span_text r k) ++ word)

abbrev pub rpc_server_name : Reading → Option (List ℕ)
rpc_server_name r = named_after r rpc_system (codes ".server.request")

-- `aws.my-function.invoke`, by who invokes, and `http.invoke`, by what triggers
abbrev pub invoked_name : Reading → Option (List ℕ)
invoked_name r =
    if_both (span_text r faas_invoked_provider) (span_text r faas_invoked_name)
    (lowered (span_text r faas_invoked_provider) ++ (codes "." ++ (lowered (span_text r faas_invoked_name) ++ codes ".invoke")))

abbrev pub triggered_name : Reading → Option (List ℕ)
triggered_name r = named_after r faas_trigger (codes ".invoke")

abbrev pub graphql_name : Reading → Option (List ℕ)
graphql_name r = if_given (span_text r graphql_operation_type) (codes "graphql.server.request")

-- `amqp.server.request`
abbrev pub protocol_name : Reading → List ℕ → Option (List ℕ)
protocol_name r request = if_given (span_text r network_protocol_name) (lowered (span_text r network_protocol_name) ++ (codes "." ++ request))

-- what a client and a server fall back on
abbrev pub request_name : Reading → List ℕ → List ℕ
request_name r request = or_absent (graphql_name r) (or_absent (protocol_name r request) request)

-- in this order for a client and for a server
abbrev pub client_name : Reading → List ℕ
client_name r =
    or_absent (query_name r) (or_absent (messaging_name r) (or_absent (rpc_client_name r) (or_absent (invoked_name r) (request_name r (codes "client.request")))))

abbrev pub server_name : Reading → List ℕ
server_name r =
    or_absent (messaging_name r) (or_absent (rpc_server_name r) (or_absent (triggered_name r) (request_name r (codes "server.request"))))

-- a producer and a consumer
abbrev pub message_name : Reading → List ℕ → List ℕ
message_name r fallback = or_absent (messaging_name r) (or_absent (graphql_name r) fallback)

abbrev pub name_by_kind : Reading → SpanKind → List ℕ
name_by_kind r Client = cond (is_http r) (codes "http.client.request") (client_name r)
name_by_kind r Server = cond (is_http r) (codes "http.server.request") (server_name r)
name_by_kind r Producer = message_name r (codes "producer")
name_by_kind r Consumer = message_name r (codes "consumer")
name_by_kind r Internal = or_absent (graphql_name r) (codes "internal")

abbrev pub operation_name : Reading → List ℕ
operation_name r = or_absent (text_of (r.span name_key)) (name_by_kind r r.kind)
