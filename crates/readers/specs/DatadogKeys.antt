-- Under which key an attribute goes to Datadog.
use Rattle.std.specs.Prelude.{ℕ, Bool, cond, ◌||◌, List, [], ◌∷◌, ◌++◌, length, is_some, Some, None, codes, Option, map, slice_index_or}
use Rattle.std.specs.Str.{bytes_eq}
use Rattle.lent_bytes.specs.Memory.{portion, rest}
use Rattle.lent_bytes.specs.Lookup.{index_from}
use Rattle.readers.specs.declared.dd_keys.DdKey.{DdKey}
use Rattle.readers.specs.declared.dd_keys.DdKey.TheVariants.{Mapped, Header, Dropped, Kept}
use Rattle.readers.specs.Tables.{Pair, to, entry_for}

abbrev pub http_names : List Pair
http_names =
    to (codes "client.address") (codes "http.client_ip") ∷
    to (codes "http.response.body.size") (codes "http.response.content_length") ∷
    to (codes "http.response.status_code") (codes "http.status_code") ∷
    to (codes "http.request.body.size") (codes "http.request.content_length") ∷
    to (codes "http.request.header.referrer") (codes "http.referrer") ∷
    to (codes "http.request.method") (codes "http.method") ∷
    to (codes "http.route") (codes "http.route") ∷
    to (codes "network.protocol.version") (codes "http.version") ∷
    to (codes "server.address") (codes "http.server_name") ∷
    to (codes "url.full") (codes "http.url") ∷
    to (codes "user_agent.original") (codes "http.useragent") ∷
    []

-- the i-th of those names
abbrev pub http_name_at : ℕ → List ℕ
http_name_at i = slice_index_or (map (λ p. p.into) http_names) i []

abbrev pub convention_keys : List (List ℕ)
convention_keys = codes "service.name" ∷ codes "operation.name" ∷ codes "resource.name" ∷ codes "span.type" ∷ []

abbrev pub begins : List ℕ → List ℕ → Bool
begins p k = bytes_eq (portion k 0 (length p)) p

-- a key that is read for a field of its own
abbrev pub is_convention_key : List ℕ → Bool
is_convention_key k = is_some (index_from 0 k convention_keys) || begins (codes "datadog.") k

-- another key's text, a header by its name, no key, or the key itself
pub data Key : Type 0 where
  mapped : List ℕ → Key
  header : List ℕ → Key
  dropped : Key
  kept : List ℕ → Key

abbrev pub plain_key : List ℕ → Key
plain_key k = cond (begins (codes "http.request.header.") k) (header (rest k 20)) (cond (is_convention_key k) dropped (kept k))

abbrev pub key_by : Option (List ℕ) → List ℕ → Key
key_by None k = plain_key k
key_by (Some t) k = mapped t

abbrev pub datadog_key : List ℕ → Key
datadog_key k = key_by (entry_for k http_names) k

-- the text of a key: a header's name stands behind a prefix, and no key is the empty text
abbrev pub key_prefix : Key → List ℕ
key_prefix (mapped t) = []
key_prefix (header t) = codes "http.request.headers."
key_prefix dropped = []
key_prefix (kept t) = []

abbrev pub key_name : Key → List ℕ
key_name (mapped t) = t
key_name (header t) = t
key_name dropped = []
key_name (kept t) = t

abbrev pub key_text : Key → List ℕ
key_text k = key_prefix k ++ key_name k

-- what the code's key means
abbrev pub key_of : DdKey → Key
key_of (Mapped t) = mapped t.now
key_of (Header t) = header t.now
key_of Dropped = dropped
key_of (Kept t) = kept t.now
