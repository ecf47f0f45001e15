-- The keys that have a place of their own, and the place of a text among them.
use Rattle.std.specs.Prelude.{ℕ, zero, suc, List, [], ◌∷◌, codes, Option}
use Rattle.lent_bytes.specs.Lookup.{index_from}
use Rattle.names.specs.declared.attribute_keys.AttributeKey.{AttributeKey}

abbrev pub keys : List (List ℕ)
keys =
    codes "datadog.service" ∷
    codes "datadog.name" ∷
    codes "datadog.env" ∷
    codes "datadog.resource" ∷
    codes "datadog.type" ∷
    codes "datadog.version" ∷
    codes "datadog.http_status_code" ∷
    codes "datadog.span.kind" ∷
    codes "datadog.error" ∷
    codes "datadog.error.msg" ∷
    codes "datadog.error.type" ∷
    codes "datadog.error.stack" ∷
    codes "operation.name" ∷
    codes "http.request.method" ∷
    codes "http.method" ∷
    codes "db.system" ∷
    codes "db.system.name" ∷
    codes "messaging.system" ∷
    codes "messaging.operation" ∷
    codes "messaging.operation.type" ∷
    codes "rpc.system" ∷
    codes "rpc.service" ∷
    codes "faas.invoked_provider" ∷
    codes "faas.invoked_name" ∷
    codes "faas.trigger" ∷
    codes "graphql.operation.type" ∷
    codes "network.protocol.name" ∷
    codes "resource.name" ∷
    codes "http.route" ∷
    codes "messaging.destination" ∷
    codes "messaging.destination.name" ∷
    codes "rpc.method" ∷
    codes "graphql.operation.name" ∷
    codes "db.statement" ∷
    codes "db.query.text" ∷
    codes "span.type" ∷
    codes "http.response.status_code" ∷
    codes "http.status_code" ∷
    codes "service.name" ∷
    codes "service.version" ∷
    codes "deployment.environment.name" ∷
    codes "deployment.environment" ∷
    codes "_dd.measured" ∷
    []

-- the place of a text among the keys
abbrev pub known : List ℕ → Option ℕ
known k = index_from 0 k keys

-- the key at a place
abbrev pub key_at : ℕ → AttributeKey
key_at i = record { idx = i }

-- the n numbers from i on
abbrev pub count_from : ℕ → ℕ → List ℕ
count_from i zero = []
count_from i (suc n) = i ∷ count_from (suc i) n

-- the numbers below n, in order
abbrev pub up_to : ℕ → List ℕ
up_to n = count_from 0 n
