-- Each step leaves every text UTF-8 where it was, by facts and a reading whose texts are.
use Rattle.std.proofs.Common.{ℕ, ◌||◌, eqb, List, [], ◌++◌, is_some, ℤ, pos, Some, None, Option, codes, decimal, IsUtf8, refl, arith}
use Rattle.std.specs.List.{AllByRecursion}
use Rattle.std.proofs.lemmas.Bool.{cond_both}
use Rattle.std.proofs.lemmas.Str.{IsUtf8-append, IsUtf8-nil}
use Rattle.values.specs.Atoms.{Datum}
use Rattle.blocks.specs.Facts.{RowFact, Facts}
use Rattle.blocks.specs.Projections.{of_list}
use Rattle.readers.specs.Reading.{Reading}
use Rattle.readers.specs.Places.{datadog_service, datadog_name, datadog_resource, datadog_type}
use Rattle.readers.specs.DatadogKeys.{begins}
use Rattle.derived.specs.Fields.{environment, field_status_code}
use Rattle.span_args.specs.ReadingOf.{datum_at, last_row_of}
use Rattle.conversion.specs.Constants.{status_word}
use Rattle.conversion.specs.Spans.{Text, quoted, lent, placed, bytes_of, Event, Span, found}
use Rattle.conversion.specs.declared.singles.Single.{Single}
use Rattle.conversion.specs.declared.singles.Single.TheVariants.{Service, Name, Resource, SpanType}
use Rattle.conversion.specs.Singles.{single_of, with_single}
use Rattle.conversion.specs.Forms.{string_form, display_form, plain_form, metric_form, number_in, one, own, of_resource}
use Rattle.conversion.specs.Steps.{put_found, is_empty, begun, own_texts, first_error, kind_form, span_kind, or_single, derived_texts, status_code, calls_out, says_one, measured, own_meta, six_own, row_key, resource_row, span_row, by_metric, scope_row, id_digits, trace_id, version, env, links, is_exception, any_exception, has_exception, trace_state, scope, described, status, is_error, exception, or_other, code_message, other_message, said_message, message, exception_texts, with_error, by_status, all_told, last_error, minimal_from, of_resource_and_scope, of_span, end_texts, at_the_end, steps_from, steps}
use Rattle.conversion_law.specs.TextsAreUtf8.{Utf8Text, ReadingIsUtf8, DerivedIsUtf8}
use Rattle.conversion_law.proofs.LawfulRows.{SoundRow}
use Rattle.conversion_law.proofs.Loops.{each_keeps}
use Rattle.conversion_law.proofs.Utf8.{constant}
use Rattle.conversion_law.proofs.Utf8Puts.{Utf8Span, test, meta, again, metric, given, text, number}
use Rattle.conversion_law.proofs.Utf8Words.{code-utf8, digits-utf8, kind-utf8, status-utf8}
use Rattle.conversion_law.proofs.Utf8Rows.{IfFound, found-in, Utf8Row, Utf8Said, Utf8Told, list-rows, last-row, string-found, display-found, links-utf8, events-utf8}

-- the facts
pub record Utf8Facts (f : Facts) : Type 0 where
  pub trace_state : IsUtf8 f.trace_state
  pub scope_name : IsUtf8 f.scope_name
  pub scope_version : IsUtf8 f.scope_version
  pub description : IsUtf8 f.description
  pub rows : AllByRecursion SoundRow f.rows

described-utf8 : (f : Facts) → Utf8Facts f → IsUtf8 (described f)
described-utf8 f u = cond_both (is_error f.status) f.description [] IsUtf8 (λ t. u.description) (λ e. IsUtf8-nil)

abbrev IfText : Option Text → Type 0
IfText o = IfFound Utf8Text Utf8Text o

or-other : (a b : Option Text) → IfText a → IfText b → IfText (or_other a b)
or-other None b u v = v
or-other (Some a) b u v = u

module _ (n : ℕ) where
  module _ (f : Facts) (u : Utf8Facts f) where
    own-utf8 : (k : List ℕ) → Utf8Text (string_form (own f k))
    own-utf8 k = string-found (last_row_of 0 k f.rows) (last-row 0 (λ e. omega arith) (λ e. omega arith) f.rows u.rows k)

    resource-utf8 : (k : List ℕ) → Utf8Text (display_form (of_resource f k))
    resource-utf8 k = display-found (last_row_of 1 k f.rows) (last-row 1 (λ e. omega arith) (λ e. omega arith) f.rows u.rows k)

    -- the steps that put no reading
    utf8-first_error : (s : Span) → Utf8Span s → Utf8Span (first_error f s)
    unfolding first_error
    utf8-first_error s h = record { texts = h.texts; meta = h.meta; metrics = h.metrics; links = h.links; events = h.events }

    utf8-with_error : (z : ℤ) (s : Span) → Utf8Span s → Utf8Span (with_error z s)
    unfolding with_error
    utf8-with_error z s h = record { texts = h.texts; meta = h.meta; metrics = h.metrics; links = h.links; events = h.events }

    utf8-links : (s : Span) → Utf8Span s → Utf8Span (links f s)
    unfolding links
    utf8-links s h = record { texts = h.texts; meta = h.meta; metrics = h.metrics; links = h.links; events = h.events }

    utf8-span_kind : (s : Span) → Utf8Span s → Utf8Span (span_kind n f s)
    unfolding span_kind
    utf8-span_kind s h =
        let k = codes "datadog.span.kind" in
        meta s h n (quoted (codes "span.kind")) (kind_form (own f k) f.kind) (constant (codes "span.kind") refl) (kind-utf8 (own f k) f.kind (own-utf8 k))

    utf8-measured : (s : Span) → Utf8Span s → Utf8Span (measured f s)
    unfolding measured
    utf8-measured s h = test (says_one (number_in (own f (codes "_dd.measured"))) || calls_out f.kind) _ _ (metric s h (quoted (codes "_dd.measured")) one (constant (codes "_dd.measured") refl)) h

    utf8-own_meta : (j m : List ℕ) → IsUtf8 m → (s : Span) → Utf8Span s → Utf8Span (own_meta n f j m s)
    unfolding own_meta
    utf8-own_meta j m a s h = given s h n (quoted m) (string_form (own f j)) a (own-utf8 j)

    utf8-six_own : (s : Span) → Utf8Span s → Utf8Span (six_own n f s)
    unfolding six_own
    utf8-six_own s h =
        utf8-own_meta (codes "datadog.error.stack") (codes "error.stack") (constant (codes "error.stack") refl) _
        (utf8-own_meta (codes "datadog.error.type") (codes "error.type") (constant (codes "error.type") refl) _
        (utf8-own_meta (codes "datadog.error.msg") (codes "error.message") (constant (codes "error.message") refl) _
        (utf8-own_meta (codes "datadog.http_status_code") (codes "http.status_code") (constant (codes "http.status_code") refl) _
        (utf8-own_meta (codes "datadog.version") (codes "version") (constant (codes "version") refl) _ (utf8-own_meta (codes "datadog.env") (codes "env") (constant (codes "env") refl) s h)))))

    utf8-trace_id : (s : Span) → Utf8Span s → Utf8Span (trace_id n f s)
    unfolding trace_id
    utf8-trace_id s h =
        meta s h n (quoted (codes "otel.trace_id")) (placed (id_digits f.trace_high ++ id_digits f.trace_low)) (constant (codes "otel.trace_id") refl)
        (IsUtf8-append (id_digits f.trace_high) (id_digits f.trace_low) (digits-utf8 f.trace_high) (digits-utf8 f.trace_low))

    utf8-version : (s : Span) → Utf8Span s → Utf8Span (version n f s)
    unfolding version
    utf8-version s h =
        test (is_some (found (codes "version") s.meta)) s _ h
        (given s h n (quoted (codes "version")) (display_form (of_resource f (codes "service.version"))) (constant (codes "version") refl) (resource-utf8 (codes "service.version")))

    utf8-has_exception : (s : Span) → Utf8Span s → Utf8Span (has_exception n s)
    unfolding has_exception
    utf8-has_exception s h =
        let k = codes "_dd.span_events.has_exception" in
        test (any_exception s.events) _ _ (meta s h n (quoted k) (quoted (codes "true")) (constant k refl) (constant (codes "true") refl)) h

    utf8-trace_state : (s : Span) → Utf8Span s → Utf8Span (trace_state n f s)
    unfolding trace_state
    utf8-trace_state s h = given s h n (quoted (codes "w3c.tracestate")) (lent f.trace_state) (constant (codes "w3c.tracestate") refl) u.trace_state

    utf8-scope : (s : Span) → Utf8Span s → Utf8Span (scope n f s)
    unfolding scope
    utf8-scope s h =
        given _ (given s h n (quoted (codes "otel.scope.name")) (lent f.scope_name) (constant (codes "otel.scope.name") refl) u.scope_name) n
        (quoted (codes "otel.scope.version"))
        (lent f.scope_version)
        (constant (codes "otel.scope.version") refl)
        u.scope_version

    utf8-status : (s : Span) → Utf8Span s → Utf8Span (status n f s)
    unfolding status
    utf8-status s h =
        given _ (meta s h n (quoted (codes "otel.status_code")) (quoted (status_word f.status)) (constant (codes "otel.status_code") refl) (status-utf8 f.status)) n
        (quoted (codes "otel.status_description"))
        (lent (described f))
        (constant (codes "otel.status_description") refl)
        (described-utf8 f u)

    -- rows
    utf8-resource_row : (a : RowFact) (s : Span) → Utf8Row a → Utf8Span s → Utf8Span (resource_row n a s)
    unfolding resource_row
    utf8-resource_row a s w h = text s h n (row_key a) (string_form (datum_at a)) w.mapped_key w.as_string

    utf8-scope_row : (a : RowFact) (s : Span) → Utf8Row a → Utf8Span s → Utf8Span (scope_row n a s)
    unfolding scope_row
    utf8-scope_row a s w h = meta s h n (lent a.key) (display_form (datum_at a)) w.key w.as_display

    utf8-by_metric : (a : RowFact) (s : Span) → Utf8Row a → Utf8Span s → (m : Option ℕ) → Utf8Span (by_metric n a m s)
    utf8-by_metric a s w h None = text s h n (row_key a) (string_form (datum_at a)) w.mapped_key w.as_string
    utf8-by_metric a s w h (Some v) = number s h (row_key a) v w.mapped_key

    utf8-span_row : (a : RowFact) (s : Span) → Utf8Row a → Utf8Span s → Utf8Span (span_row n a s)
    unfolding span_row
    utf8-span_row a s w h = test (begins (codes "datadog.") a.key) s _ h (utf8-by_metric a s w h (metric_form (datum_at a)))

    -- the error
    utf8-put_found : (j : List ℕ) → IsUtf8 j → (o : Option (Option Datum)) → IfFound Utf8Text Utf8Said o → (s : Span) → Utf8Span s → Utf8Span (put_found n j o s)
    unfolding put_found
    utf8-put_found j a None b s h = h
    utf8-put_found j a (Some d) b s h = meta s h n (quoted j) (plain_form d) a b.1

    utf8-exception : (e : Event) (s : Span) → Utf8Told e → Utf8Span s → Utf8Span (exception n e s)
    unfolding exception exception_texts
    utf8-exception e s w h =
        let text : (k : List ℕ) → IfFound Utf8Text Utf8Said (found k e.attributes) = λ k. found-in Utf8Text Utf8Said k e.attributes w.attributes in
        test (is_exception e) _ s
        (utf8-put_found (codes "error.stack") (constant (codes "error.stack") refl) (found (codes "exception.stacktrace") e.attributes) (text (codes "exception.stacktrace")) _
        (utf8-put_found (codes "error.type") (constant (codes "error.type") refl) (found (codes "exception.type") e.attributes) (text (codes "exception.type")) _
        (utf8-put_found (codes "error.message") (constant (codes "error.message") refl) (found (codes "exception.message") e.attributes) (text (codes "exception.message")) s h)))
        h

    utf8-code_message : (o d : Option Text) → IfText o → IfText d → (s : Span) → Utf8Span s → Utf8Span (code_message n o d s)
    unfolding code_message
    utf8-code_message None d a b s h = h
    utf8-code_message (Some x) None a b s h = again s h n (quoted (codes "error.message")) x (constant (codes "error.message") refl) a
    utf8-code_message (Some x) (Some y) a b s h =
        meta s h n (quoted (codes "error.message")) (placed (bytes_of x ++ (codes " " ++ bytes_of y))) (constant (codes "error.message") refl)
        (IsUtf8-append (bytes_of x) (codes " " ++ bytes_of y) a (IsUtf8-append (codes " ") (bytes_of y) (constant (codes " ") refl) b))

    utf8-said_message : (t : Text) → Utf8Text t → (s : Span) → Utf8Span s → Utf8Span (said_message n t s)
    unfolding said_message other_message
    utf8-said_message t a s h =
        let in_meta : (k : List ℕ) → IfText (found k s.meta) = λ k. found-in Utf8Text Utf8Text k s.meta h.meta in
        let x = found (codes "http.response.status_code") s.meta in
        let y = found (codes "http.status_code") s.meta in
        test (is_empty (bytes_of t)) _ _
        (utf8-code_message (or_other x y) (found (codes "http.status_text") s.meta) (or-other x y (in_meta (codes "http.response.status_code")) (in_meta (codes "http.status_code"))) (in_meta (codes "http.status_text")) s h)
        (meta s h n (quoted (codes "error.message")) t (constant (codes "error.message") refl) a)

    utf8-message : (s : Span) → Utf8Span s → Utf8Span (message n f s)
    unfolding message
    utf8-message s h = test (is_some (found (codes "error.message") s.meta)) s _ h (utf8-said_message (lent (described f)) (described-utf8 f u) s h)

    utf8-by_status : (s : Span) → Utf8Span s → Utf8Span (by_status n f s)
    unfolding by_status
    utf8-by_status s h =
        test (is_error f.status) _ _
        (utf8-with_error (pos 1) _ (utf8-message _ (each_keeps (exception n) Utf8Told Utf8Span utf8-exception s.events h.events s h)))
        (utf8-with_error (pos 0) s h)

    utf8-last_error : (s : Span) → Utf8Span s → Utf8Span (last_error n f s)
    unfolding last_error
    utf8-last_error s h = test (all_told s) s _ h (utf8-by_status s h)

    -- the four texts
    utf8-with_single : (w : Single) (t : List ℕ) → IsUtf8 t → (s : Span) → Utf8Span s → Utf8Span (with_single w t s)
    unfolding with_single
    utf8-with_single Service t a s h = record { texts = (a, h.texts.1); meta = h.meta; metrics = h.metrics; links = h.links; events = h.events }
    utf8-with_single Name t a s h = record { texts = (h.texts.0, (a, h.texts.1.1)); meta = h.meta; metrics = h.metrics; links = h.links; events = h.events }
    utf8-with_single Resource t a s h = record { texts = (h.texts.0, (h.texts.1.0, (a, h.texts.1.1.1))); meta = h.meta; metrics = h.metrics; links = h.links; events = h.events }
    utf8-with_single SpanType t a s h = record { texts = (h.texts.0, (h.texts.1.0, (h.texts.1.1.0, a))); meta = h.meta; metrics = h.metrics; links = h.links; events = h.events }

    utf8-or_single : (w : Single) (t : List ℕ) → IsUtf8 t → (s : Span) → Utf8Span s → Utf8Span (or_single w t s)
    unfolding or_single
    utf8-or_single w t a s h = test (is_empty (bytes_of (single_of w s))) _ s (utf8-with_single w t a s h) h

    -- by a reading
    module _ (r : Reading) (g : ReadingIsUtf8 r) (d : DerivedIsUtf8 r) where
      utf8-own_texts : (s : Span) → Utf8Span s → Utf8Span (own_texts r s)
      unfolding own_texts
      utf8-own_texts s h =
          utf8-with_single SpanType _ (g.on_span datadog_type) _
          (utf8-with_single Resource _ (g.on_span datadog_resource) _ (utf8-with_single Name _ (g.on_span datadog_name) _ (utf8-with_single Service _ (g.on_span datadog_service) s h)))

      utf8-derived_texts : (s : Span) → Utf8Span s → Utf8Span (derived_texts r s)
      unfolding derived_texts
      utf8-derived_texts s h =
          utf8-or_single SpanType _ d.type _ (utf8-or_single Resource _ d.resource _ (utf8-or_single Name _ d.name _ (utf8-or_single Service _ d.service s h)))

      utf8-status_code : (s : Span) → Utf8Span s → Utf8Span (status_code n r s)
      unfolding status_code
      utf8-status_code s h = test (eqb (field_status_code r) 0) s _ h (meta s h n (quoted (codes "http.status_code")) (placed (decimal (field_status_code r))) (constant (codes "http.status_code") refl) (code-utf8 r))

      utf8-env : (s : Span) → Utf8Span s → Utf8Span (env n r s)
      unfolding env
      utf8-env s h = test (is_some (found (codes "env") s.meta)) s _ h (given s h n (quoted (codes "env")) (placed (environment r)) (constant (codes "env") refl) d.environment)

      -- the four parts
      utf8-begun : Utf8Span (begun f)
      utf8-begun =
          let e : IsUtf8 [] = IsUtf8-nil in
          record { texts = (e, (e, (e, e))); meta = tt; metrics = tt; links = links-utf8 f.rows u.rows; events = events-utf8 f.rows u.rows }

      utf8-minimal : (s : Span) → Utf8Span s → Utf8Span (minimal_from n f r s)
      unfolding minimal_from
      utf8-minimal s h = utf8-measured _ (utf8-status_code _ (utf8-derived_texts _ (utf8-span_kind _ (utf8-first_error _ (utf8-own_texts s h)))))

      utf8-of_resource_and_scope : (s : Span) → Utf8Span s → Utf8Span (of_resource_and_scope n f s)
      unfolding of_resource_and_scope
      utf8-of_resource_and_scope s h =
          utf8-version _
          (utf8-trace_id _
          (each_keeps (scope_row n) Utf8Row Utf8Span utf8-scope_row (of_list 2 f.rows) (list-rows 2 (λ e. omega arith) (λ e. omega arith) f.rows u.rows) _
          (each_keeps (resource_row n) Utf8Row Utf8Span utf8-resource_row (of_list 1 f.rows) (list-rows 1 (λ e. omega arith) (λ e. omega arith) f.rows u.rows) _ (utf8-six_own s h))))

      utf8-of_span : (s : Span) → Utf8Span s → Utf8Span (of_span n f r s)
      unfolding of_span
      utf8-of_span s h = utf8-links _ (utf8-env _ (each_keeps (span_row n) Utf8Row Utf8Span utf8-span_row (of_list 0 f.rows) (list-rows 0 (λ e. omega arith) (λ e. omega arith) f.rows u.rows) s h))

      utf8-at_the_end : (s : Span) → Utf8Span s → Utf8Span (at_the_end n f s)
      unfolding at_the_end end_texts
      utf8-at_the_end s h = utf8-last_error _ (utf8-status _ (utf8-scope _ (utf8-trace_state _ (utf8-has_exception s h))))

      pub steps-utf8 : Utf8Span (steps n f r)
      unfolding steps_from
      steps-utf8 = utf8-at_the_end _ (utf8-of_span _ (utf8-of_resource_and_scope _ (utf8-minimal (begun f) utf8-begun)))
