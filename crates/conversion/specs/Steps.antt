-- The steps that make a Datadog span, in their order, of the facts f of a block and of what a reader r gives. A table of
-- meta has n rows, and one of metrics 130.
use Rattle.std.specs.Prelude.{ℕ, zero, suc, ◌-◌, ◌/◌, ◌%◌, Bool, true, false, cond, not, ◌&&◌, ◌||◌, List, [], ◌∷◌, ◌++◌, take, map, ℤ, pos, negsuc, is_some, Some, None, codes, decimal, Option, ◌==◌}
use Rattle.std.specs.Char.{to_ascii_lowercase}
use Rattle.std.specs.List.{flat_map}
use Rattle.std.specs.Str.{bytes_eq}
use Rattle.lent_bytes.specs.Digits.{hex_pair}
use Rattle.keyed.specs.Keyed.{inserts}
use Rattle.names.specs.Conventions.{sampling_rate_name}
use Rattle.values.specs.Atoms.{Datum}
use Rattle.blocks.specs.declared.span_kind.SpanKind.{SpanKind}
use Rattle.blocks.specs.declared.span_kind.SpanKind.TheVariants.{Internal, Server, Client, Producer, Consumer}
use Rattle.blocks.specs.declared.span_kind.StatusCode.{StatusCode}
use Rattle.blocks.specs.declared.span_kind.StatusCode.TheVariants.{Unset, Ok, Error}
use Rattle.blocks.specs.Facts.{RowFact, Facts}
use Rattle.blocks.specs.Names.{kind_name}
use Rattle.blocks.specs.Projections.{Owned, of_list, events_of, links_of}
use Rattle.blocks.specs.declared.row.LinkIds.{LinkIds}
use Rattle.blocks.specs.Projections.{link_ids_in}
use Rattle.readers.specs.Reading.{Reading}
use Rattle.readers.specs.Texts.{span_text}
use Rattle.readers.specs.DatadogKeys.{begins, datadog_key}
use Rattle.derived.specs.Fields.{environment, field_status_code}
use Rattle.span_args.specs.ReadingOf.{datum_at}
use Rattle.conversion.specs.Constants.{status_word}
use Rattle.conversion.specs.Spans.{Text, quoted, lent, placed, bytes_of, arena_for, same_text, Link, Event, Span, found}
use Rattle.conversion.specs.declared.singles.Single.{Single}
use Rattle.conversion.specs.declared.singles.Single.TheVariants.{Service, Name, Resource, SpanType}
use Rattle.conversion.specs.Singles.{own_key, derived_text, single_of, with_single}
use Rattle.conversion.specs.Forms.{string_form, display_form, plain_form, metric_form, key_form, own, of_resource, number_in, since_1970, int32, parsed_bool, one}

-- insertions: a key keeps its place and its text, and a new one goes behind, while there is room in the table
abbrev pub insert : {V : Type 0} → Text → V → List (Text × V) → List (Text × V)
insert k v [] = (k, v) ∷ []
insert k v (p ∷ m) = cond (same_text p.0 k) ((p.0, v) ∷ m) (p ∷ insert k v m)

unfoldable pub put : {V : Type 0} → ℕ → Text → V → List (Text × V) → List (Text × V)
put n k v m = take n (insert k v m)

-- what the arena takes for a key: nothing where it stands already
unfoldable pub key_arena : {V : Type 0} → Text → List (Text × V) → List ℕ
key_arena k m = cond (is_some (found (bytes_of k) m)) [] (arena_for k)

unfoldable pub put_meta : ℕ → Text → Text → Span → Span
put_meta n k v s = record s { meta = put n k v s.meta; arena = s.arena ++ (key_arena k s.meta ++ arena_for v) }

-- a text that the span has already
unfoldable pub put_again : ℕ → Text → Text → Span → Span
put_again n k v s = record s { meta = put n k v s.meta; arena = s.arena ++ key_arena k s.meta }

unfoldable pub put_metric : Text → ℕ → Span → Span
put_metric k p s = record s { metrics = put 130 k p s.metrics; arena = s.arena ++ key_arena k s.metrics }

-- one step for each of a list
unfoldable pub each : {X : Type 0} → (X → Span → Span) → List X → Span → Span
each step [] s = s
each step (x ∷ xs) s = each step xs (step x s)

abbrev pub is_empty : List ℕ → Bool
is_empty [] = true
is_empty (x ∷ t) = false

-- v under k, unless v is empty
unfoldable pub put_given : ℕ → Text → Text → Span → Span
put_given n k v s = cond (is_empty (bytes_of v)) s (put_meta n k v s)

-- links and events are what the block says
abbrev pub link_entry : RowFact → Text × Text
link_entry a = (lent a.key, string_form (datum_at a))

abbrev pub link_with : LinkIds → Owned → Link
link_with ids o =
    record {
      trace_high = ids.trace_id_high;
      trace_low = ids.trace_id_low;
      span_id = ids.span_id;
      flags = ids.flags;
      trace_state = lent o.head.key;
      attributes = inserts same_text [] (map link_entry o.attributes);
    }

abbrev pub link_of : Owned → Link
link_of o = link_with (link_ids_in o.head.value) o

abbrev pub link_arena : Owned → List ℕ
link_arena o = flat_map (λ a. arena_for (string_form (datum_at a))) o.attributes

abbrev pub event_entry : RowFact → Text × Option Datum
event_entry a = (lent a.key, datum_at a)

abbrev pub event_of : Owned → Event
event_of o = record { time = since_1970 o.head.time; name = lent o.head.key; attributes = inserts same_text [] (map event_entry o.attributes) }

-- 1. ids and times, links and events
abbrev pub begun : Facts → Span
begun f =
    record {
      service = quoted [];
      name = quoted [];
      resource = quoted [];
      type = quoted [];
      trace_id = f.trace_low;
      span_id = f.span_id;
      parent_id = f.parent_id;
      start = pos (since_1970 f.start);
      duration = pos (since_1970 f.finish - since_1970 f.start);
      error = pos 0;
      meta = [];
      metrics = [];
      links = map link_of (links_of f.rows);
      events = map event_of (events_of f.rows);
      arena = [];
    }

-- 2. the four texts of Datadog's own, one by one
abbrev pub own_single : Single → Reading → Span → Span
own_single w r s = with_single w (span_text r (own_key w)) s

unfoldable pub own_texts : Reading → Span → Span
own_texts r s = own_single SpanType r (own_single Resource r (own_single Name r (own_single Service r s)))

-- 3. whether it is an error, as the span says itself or by its status
abbrev pub is_error : StatusCode → Bool
is_error Unset = false
is_error Ok = false
is_error Error = true

abbrev pub error_by : Option ℤ → StatusCode → ℤ
error_by (Some z) c = z
error_by None c = cond (is_error c) (pos 1) (pos 0)

unfoldable pub first_error : Facts → Span → Span
first_error f s = record s { error = error_by (int32 (number_in (own f (codes "datadog.error")))) f.status }

-- 4. the kind
abbrev pub kind_form : Option Datum → SpanKind → Text
kind_form None k = quoted (kind_name k)
kind_form (Some d) k = string_form (Some d)

unfoldable pub span_kind : ℕ → Facts → Span → Span
span_kind n f s = put_meta n (quoted (codes "span.kind")) (kind_form (own f (codes "datadog.span.kind")) f.kind) s

-- 5. what is derived where the four texts are empty, one by one
unfoldable pub or_single : Single → List ℕ → Span → Span
or_single w t s = cond (is_empty (bytes_of (single_of w s))) (with_single w t s) s

abbrev pub derived_single : Single → Reading → Span → Span
derived_single w r s = or_single w (derived_text w r) s

unfoldable pub derived_texts : Reading → Span → Span
derived_texts r s = derived_single SpanType r (derived_single Resource r (derived_single Name r (derived_single Service r s)))

-- 6. the status code of HTTP, unless it is 0
unfoldable pub status_code : ℕ → Reading → Span → Span
status_code n r s = cond (field_status_code r == 0) s (put_meta n (quoted (codes "http.status_code")) (placed (decimal (field_status_code r))) s)

-- 7. whether it is measured
abbrev pub calls_out : SpanKind → Bool
calls_out Internal = false
calls_out Server = false
calls_out Client = true
calls_out Producer = true
calls_out Consumer = false

abbrev pub says_one : Option ℤ → Bool
says_one None = false
says_one (Some (pos zero)) = false
says_one (Some (pos (suc zero))) = true
says_one (Some (pos (suc (suc n)))) = false
says_one (Some (negsuc n)) = false

unfoldable pub measured : Facts → Span → Span
measured f s = cond (says_one (number_in (own f (codes "_dd.measured"))) || calls_out f.kind) (put_metric (quoted (codes "_dd.measured")) one s) s

-- 8. six attributes of Datadog's own that are not empty
unfoldable pub own_meta : ℕ → Facts → List ℕ → List ℕ → Span → Span
own_meta n f k m s = put_given n (quoted m) (string_form (own f k)) s

unfoldable pub six_own : ℕ → Facts → Span → Span
six_own n f s =
    own_meta n f (codes "datadog.error.stack") (codes "error.stack")
    (own_meta n f (codes "datadog.error.type") (codes "error.type")
    (own_meta n f (codes "datadog.error.msg") (codes "error.message")
    (own_meta n f (codes "datadog.http_status_code") (codes "http.status_code")
    (own_meta n f (codes "datadog.version") (codes "version") (own_meta n f (codes "datadog.env") (codes "env") s)))))

-- 9. and 13. an attribute by its mapped key: as a text, or as a number
abbrev pub is_meta_key : List ℕ → Bool
is_meta_key k =
    bytes_eq k (codes "env")
    || (bytes_eq k (codes "version") || (bytes_eq k (codes "http.status_code") || (bytes_eq k (codes "error.message") || (bytes_eq k (codes "error.type") || bytes_eq k (codes "error.stack")))))

abbrev pub says_something : Option Text → Bool
says_something None = false
says_something (Some t) = not (is_empty (bytes_of t))

-- how often events are taken from the span
unfoldable pub put_sampling : Option Bool → Span → Span
put_sampling None s = s
put_sampling (Some b) s = put_metric (quoted sampling_rate_name) (cond b one 0) s

unfoldable pub put_text : ℕ → Text → Text → Span → Span
put_text n k v s =
    cond (is_empty (bytes_of k)) s
    (cond (is_meta_key (bytes_of k) && says_something (found (bytes_of k) s.meta)) s
    (cond (bytes_eq (bytes_of k) (codes "analytics.event")) (put_sampling (parsed_bool (bytes_of v)) s) (put_meta n k v s)))

unfoldable pub put_number : Text → ℕ → Span → Span
put_number k p s =
    cond (is_empty (bytes_of k)) s
    (cond (is_meta_key (bytes_of k) && is_some (found (bytes_of k) s.metrics)) s
    (cond (bytes_eq (bytes_of k) (codes "sampling.priority")) (put_metric (quoted (codes "_sampling_priority_v1")) p s) (put_metric k p s)))

abbrev pub row_key : RowFact → Text
row_key a = key_form (datadog_key a.key)

unfoldable pub resource_row : ℕ → RowFact → Span → Span
resource_row n a s = put_text n (row_key a) (string_form (datum_at a)) s

abbrev pub by_metric : ℕ → RowFact → Option ℕ → Span → Span
by_metric n a None s = put_text n (row_key a) (string_form (datum_at a)) s
by_metric n a (Some p) s = put_number (row_key a) p s

unfoldable pub span_row : ℕ → RowFact → Span → Span
span_row n a s = cond (begins (codes "datadog.") a.key) s (by_metric n a (metric_form (datum_at a)) s)

-- 10. the scope's attributes
unfoldable pub scope_row : ℕ → RowFact → Span → Span
scope_row n a s = put_meta n (lent a.key) (display_form (datum_at a)) s

-- 11. the whole trace id, 32 hex digits
abbrev pub id_digits : ℕ → List ℕ
id_digits v =
    flat_map hex_pair
    ((v / 72057594037927936 % 256) ∷ (v / 281474976710656 % 256) ∷ (v / 1099511627776 % 256) ∷ (v / 4294967296 % 256)
    ∷ (v / 16777216 % 256)
    ∷ (v / 65536 % 256)
    ∷ (v / 256 % 256)
    ∷ (v % 256)
    ∷ [])

unfoldable pub trace_id : ℕ → Facts → Span → Span
trace_id n f s = put_meta n (quoted (codes "otel.trace_id")) (placed (id_digits f.trace_high ++ id_digits f.trace_low)) s

-- 12. the service's version, and 14. the environment, unless they are there
unfoldable pub version : ℕ → Facts → Span → Span
version n f s = cond (is_some (found (codes "version") s.meta)) s (put_given n (quoted (codes "version")) (display_form (of_resource f (codes "service.version"))) s)

unfoldable pub env : ℕ → Reading → Span → Span
env n r s = cond (is_some (found (codes "env") s.meta)) s (put_given n (quoted (codes "env")) (placed (environment r)) s)

-- 15. the texts of the links' attributes
unfoldable pub links : Facts → Span → Span
links f s = record s { arena = s.arena ++ flat_map link_arena (links_of f.rows) }

-- 17. whether one of them is an exception
abbrev pub is_exception : Event → Bool
is_exception e = bytes_eq (map to_ascii_lowercase (bytes_of e.name)) (codes "exception")

abbrev pub any_exception : List Event → Bool
any_exception [] = false
any_exception (e ∷ es) = is_exception e || any_exception es

unfoldable pub has_exception : ℕ → Span → Span
has_exception n s = cond (any_exception s.events) (put_meta n (quoted (codes "_dd.span_events.has_exception")) (quoted (codes "true")) s) s

-- 18. the trace state and the scope
unfoldable pub trace_state : ℕ → Facts → Span → Span
trace_state n f s = put_given n (quoted (codes "w3c.tracestate")) (lent f.trace_state) s

unfoldable pub scope : ℕ → Facts → Span → Span
scope n f s = put_given n (quoted (codes "otel.scope.version")) (lent f.scope_version) (put_given n (quoted (codes "otel.scope.name")) (lent f.scope_name) s)

-- 19. the status
-- only an error has a description
abbrev pub described : Facts → List ℕ
described f = cond (is_error f.status) f.description []

unfoldable pub status : ℕ → Facts → Span → Span
status n f s = put_given n (quoted (codes "otel.status_description")) (lent (described f)) (put_meta n (quoted (codes "otel.status_code")) (quoted (status_word f.status)) s)

-- 20. the error, unless its three texts are there
unfoldable pub put_found : ℕ → List ℕ → Option (Option Datum) → Span → Span
put_found n k None s = s
put_found n k (Some d) s = put_meta n (quoted k) (plain_form d) s

unfoldable pub exception_texts : ℕ → Event → Span → Span
exception_texts n e s =
    put_found n (codes "error.stack") (found (codes "exception.stacktrace") e.attributes)
    (put_found n (codes "error.type") (found (codes "exception.type") e.attributes) (put_found n (codes "error.message") (found (codes "exception.message") e.attributes) s))

unfoldable pub exception : ℕ → Event → Span → Span
exception n e s = cond (is_exception e) (exception_texts n e s) s

abbrev pub or_other : Option Text → Option Text → Option Text
or_other None b = b
or_other (Some a) b = Some a

unfoldable pub code_message : ℕ → Option Text → Option Text → Span → Span
code_message n None text s = s
code_message n (Some code) None s = put_again n (quoted (codes "error.message")) code s
code_message n (Some code) (Some text) s = put_meta n (quoted (codes "error.message")) (placed (bytes_of code ++ (codes " " ++ bytes_of text))) s

unfoldable pub other_message : ℕ → Span → Span
other_message n s = code_message n (or_other (found (codes "http.response.status_code") s.meta) (found (codes "http.status_code") s.meta)) (found (codes "http.status_text") s.meta) s

unfoldable pub said_message : ℕ → Text → Span → Span
said_message n t s = cond (is_empty (bytes_of t)) (other_message n s) (put_meta n (quoted (codes "error.message")) t s)

unfoldable pub message : ℕ → Facts → Span → Span
message n f s = cond (is_some (found (codes "error.message") s.meta)) s (said_message n (lent (described f)) s)

unfoldable pub with_error : ℤ → Span → Span
with_error z s = record s { error = z }

unfoldable pub by_status : ℕ → Facts → Span → Span
by_status n f s = cond (is_error f.status) (with_error (pos 1) (message n f (each (exception n) s.events s))) (with_error (pos 0) s)

abbrev pub all_told : Span → Bool
all_told s = is_some (found (codes "error.message") s.meta) && (is_some (found (codes "error.type") s.meta) && is_some (found (codes "error.stack") s.meta))

unfoldable pub last_error : ℕ → Facts → Span → Span
last_error n f s = cond (all_told s) s (by_status n f s)

-- the whole, in four parts
unfoldable pub minimal_from : ℕ → Facts → Reading → Span → Span
minimal_from n f r s = measured f (status_code n r (derived_texts r (span_kind n f (first_error f (own_texts r s)))))

unfoldable pub of_resource_and_scope : ℕ → Facts → Span → Span
of_resource_and_scope n f s = version n f (trace_id n f (each (scope_row n) (of_list 2 f.rows) (each (resource_row n) (of_list 1 f.rows) (six_own n f s))))

unfoldable pub of_span : ℕ → Facts → Reading → Span → Span
of_span n f r s = links f (env n r (each (span_row n) (of_list 0 f.rows) s))

unfoldable pub end_texts : ℕ → Facts → Span → Span
end_texts n f s = status n f (scope n f (trace_state n f s))

unfoldable pub at_the_end : ℕ → Facts → Span → Span
at_the_end n f s = last_error n f (end_texts n f (has_exception n s))

unfoldable pub steps_from : ℕ → Facts → Reading → Span → Span
steps_from n f r s = at_the_end n f (of_span n f r (of_resource_and_scope n f (minimal_from n f r s)))

abbrev pub steps : ℕ → Facts → Reading → Span
steps n f r = steps_from n f r (begun f)
