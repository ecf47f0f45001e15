-- What all steps keep of the tables of a span, and that they do the same with room for n rows of meta as with room for k, where
-- each put does.
use Rattle.std.proofs.Common.{◌≡◌, ℕ, Bool, true, false, cond, ◌&&◌, ◌||◌, ◌==◌, List, [], ◌∷◌, ◌++◌, ℤ, pos, Some, None, Option, codes, decimal, bytes_eq, is_some, subst, refl, sym, ap, ◌∙◌}
use Rattle.std.specs.List.{AllByRecursion}
use Rattle.std.proofs.lemmas.Bool.{cond_both}
use Rattle.names.specs.Conventions.{sampling_rate_name}
use Rattle.values.specs.Atoms.{Datum}
use Rattle.blocks.specs.Facts.{RowFact, Facts}
use Rattle.blocks.specs.Projections.{of_list}
use Rattle.readers.specs.Reading.{Reading}
use Rattle.readers.specs.DatadogKeys.{begins}
use Rattle.derived.specs.Fields.{environment, field_status_code}
use Rattle.span_args.specs.ReadingOf.{datum_at}
use Rattle.conversion.specs.Constants.{status_word}
use Rattle.conversion.specs.Spans.{Text, quoted, lent, placed, bytes_of, Link, Event, Span, found}
use Rattle.conversion.specs.Forms.{string_form, display_form, plain_form, metric_form, parsed_bool, number_in, one, own, of_resource}
use Rattle.conversion.specs.Steps.{put, put_meta, put_again, put_metric, put_given, put_text, put_number, put_sampling, put_found, each, is_empty, is_meta_key, says_something, begun, own_texts, first_error, kind_form, span_kind, derived_texts, status_code, calls_out, says_one, measured, own_meta, six_own, row_key, resource_row, span_row, by_metric, scope_row, id_digits, trace_id, version, env, links, is_exception, any_exception, has_exception, trace_state, scope, described, status, is_error, exception, or_other, code_message, other_message, said_message, message, exception_texts, with_error, by_status, all_told, last_error, minimal_from, of_resource_and_scope, of_span, end_texts, at_the_end, steps_from, steps}
use Rattle.conversion_law.proofs.Singles.{without_four, rest-own_texts, rest-derived_texts}
use Rattle.conversion_law.proofs.Tables.{In}
use Rattle.conversion_law.proofs.Loops.{all-of}

-- the keys of the program's own
abbrev pub own_meta_keys : List (List ℕ)
own_meta_keys =
    codes "span.kind" ∷
    codes "http.status_code" ∷
    codes "env" ∷
    codes "version" ∷
    codes "error.message" ∷
    codes "error.type" ∷
    codes "error.stack" ∷
    codes "otel.trace_id" ∷
    codes "_dd.span_events.has_exception" ∷
    codes "w3c.tracestate" ∷
    codes "otel.scope.name" ∷
    codes "otel.scope.version" ∷
    codes "otel.status_code" ∷
    codes "otel.status_description" ∷
    []

abbrev pub own_metrics_keys : List (List ℕ)
own_metrics_keys = codes "_dd.measured" ∷ sampling_rate_name ∷ []

-- the key under which a number goes
abbrev pub number_key : List ℕ → List ℕ
number_key t = cond (bytes_eq t (codes "sampling.priority")) (codes "_sampling_priority_v1") t

-- what is kept, and of which keys
pub record Keeping : Type 1 where
  pub n : ℕ
  pub k : ℕ
  pub Meta : List (Text × Text) → Type 0
  pub Metrics : List (Text × ℕ) → Type 0
  pub Links : List Link → Type 0
  pub Events : List Event → Type 0
  pub MetaKey : List ℕ → Type 0
  pub MetricsKey : List ℕ → Type 0
  pub own_meta : (j : List ℕ) → In j own_meta_keys → MetaKey j
  pub own_metrics : (j : List ℕ) → In j own_metrics_keys → MetricsKey j
  pub put_meta : (t v : Text) (m : List (Text × Text)) → MetaKey (bytes_of t) → Meta m → (put n t v m ≡ put k t v m) × Meta (put n t v m)
  pub put_metrics : (t : Text) (v : ℕ) (m : List (Text × ℕ)) → MetricsKey (bytes_of t) → Metrics m → Metrics (put 130 t v m)

pub record Holds (c : Keeping) (s : Span) : Type 0 where
  pub meta : c.Meta s.meta
  pub metrics : c.Metrics s.metrics
  pub links : c.Links s.links
  pub events : c.Events s.events

-- the keys of the rows are such keys
pub record Keyed (c : Keeping) (f : Facts) : Type 0 where
  pub resource : AllByRecursion (λ a. c.MetaKey (bytes_of (row_key a))) (of_list 1 f.rows)
  pub scope : AllByRecursion (λ (a : RowFact). c.MetaKey a.key) (of_list 2 f.rows)
  pub span : AllByRecursion (λ a. c.MetaKey (bytes_of (row_key a)) × c.MetricsKey (number_key (bytes_of (row_key a)))) (of_list 0 f.rows)

module _ (c : Keeping) where
  abbrev pub Kept : Span → Span → Type 0
  Kept s t = (s ≡ t) × Holds c s

  -- one step
  step : (f g : Span → Span) → ((s : Span) → Holds c s → Kept (f s) (g s)) → (s t : Span) → Kept s t → Kept (f s) (g t)
  step f g h s t a = let q = h s a.1 in (q.0 ∙ ap g a.0, q.1)

  -- where the four texts alone differ
  holds-rest : (s t : Span) → without_four t ≡ without_four s → Holds c s → Holds c t
  holds-rest s t e h =
      let d = sym e in
      record {
        meta = subst (λ (z : Span). c.Meta z.meta) d h.meta;
        metrics = subst (λ (z : Span). c.Metrics z.metrics) d h.metrics;
        links = subst (λ (z : Span). c.Links z.links) d h.links;
        events = subst (λ (z : Span). c.Events z.events) d h.events;
      }

  stays : (s : Span) → Holds c s → Kept s s
  stays s h = (refl, h)

  test : (b : Bool) (s t u v : Span) → Kept s u → Kept t v → Kept (cond b s t) (cond b u v)
  test true s t u v a b = a
  test false s t u v a b = b

  module _ (s : Span) (h : Holds c s) where
    meta : (t v : Text) → c.MetaKey (bytes_of t) → Kept (put_meta c.n t v s) (put_meta c.k t v s)
    unfolding put_meta
    meta t v i = let q = c.put_meta t v s.meta i h.meta in (ap (λ m. record (put_meta c.n t v s) { meta = m }) q.0, record { meta = q.1; metrics = h.metrics; links = h.links; events = h.events })

    again : (t v : Text) → c.MetaKey (bytes_of t) → Kept (put_again c.n t v s) (put_again c.k t v s)
    unfolding put_again
    again t v i = let q = c.put_meta t v s.meta i h.meta in (ap (λ m. record (put_again c.n t v s) { meta = m }) q.0, record { meta = q.1; metrics = h.metrics; links = h.links; events = h.events })

    metric : (t : Text) (v : ℕ) → c.MetricsKey (bytes_of t) → Kept (put_metric t v s) (put_metric t v s)
    unfolding put_metric
    metric t v i = (refl, record { meta = h.meta; metrics = c.put_metrics t v s.metrics i h.metrics; links = h.links; events = h.events })

    own_key : (t : List ℕ) (v : Text) → In t own_meta_keys → Kept (put_meta c.n (quoted t) v s) (put_meta c.k (quoted t) v s)
    own_key t v i = meta (quoted t) v (c.own_meta t i)

    own_given : (t : List ℕ) (v : Text) → In t own_meta_keys → Kept (put_given c.n (quoted t) v s) (put_given c.k (quoted t) v s)
    unfolding put_given
    own_given t v i = test (is_empty (bytes_of v)) s (put_meta c.n (quoted t) v s) s (put_meta c.k (quoted t) v s) (stays s h) (own_key t v i)

    -- an attribute
    sampling : (b : Option Bool) → Kept (put_sampling b s) (put_sampling b s)
    unfolding put_sampling
    sampling None = stays s h
    sampling (Some b) = metric (quoted sampling_rate_name) (cond b one 0) (c.own_metrics sampling_rate_name refl)

    pub text : (t v : Text) → c.MetaKey (bytes_of t) → Kept (put_text c.n t v s) (put_text c.k t v s)
    unfolding put_text
    text t v i =
        let q = stays s h in
        test (is_empty (bytes_of t)) s _ s _ q (test (is_meta_key (bytes_of t) && says_something (found (bytes_of t) s.meta)) s _ s _ q (test (bytes_eq (bytes_of t) (codes "analytics.event")) _ _ _ _ (sampling (parsed_bool (bytes_of v))) (meta t v i)))

    pub number : (t : Text) (v : ℕ) → c.MetricsKey (number_key (bytes_of t)) → Kept (put_number t v s) (put_number t v s)
    unfolding put_number
    number t v i =
        let q = stays s h in
        let is = bytes_eq (bytes_of t) (codes "sampling.priority") in
        let first = put_metric (quoted (codes "_sampling_priority_v1")) v s in
        let last = put_metric t v s in
        test (is_empty (bytes_of t)) s _ s _ q (test (is_meta_key (bytes_of t) && is_some (found (bytes_of t) s.metrics)) s _ s _ q
        (cond_both is first last (λ z. Kept z z)
        (λ e. metric (quoted (codes "_sampling_priority_v1")) v (subst (λ b. c.MetricsKey (cond b (codes "_sampling_priority_v1") (bytes_of t))) e i))
        (λ e. metric t v (subst (λ b. c.MetricsKey (cond b (codes "_sampling_priority_v1") (bytes_of t))) e i))))

  -- one step for each of a list
  loop : {X : Type 0} (f g : X → Span → Span) (P : X → Type 0) → ((x : X) → P x → (s : Span) → Holds c s → Kept (f x s) (g x s)) → (xs : List X) → AllByRecursion P xs → (s t : Span) → Kept s t → Kept (each f xs s) (each g xs t)
  unfolding each
  loop f g P h [] a s t q = q
  loop f g P h (x ∷ xs) a s t q = loop f g P h xs a.1 (f x s) (g x t) (step (f x) (g x) (h x a.0) s t q)

  module _ (f : Facts) (r : Reading) where
    -- ids, times and texts
    same-own_texts : (s : Span) → Holds c s → Kept (own_texts r s) (own_texts r s)
    same-own_texts s h = (refl, holds-rest s (own_texts r s) (rest-own_texts r s) h)

    same-first_error : (s : Span) → Holds c s → Kept (first_error f s) (first_error f s)
    unfolding first_error
    same-first_error s h = (refl, record { meta = h.meta; metrics = h.metrics; links = h.links; events = h.events })

    same-derived_texts : (s : Span) → Holds c s → Kept (derived_texts r s) (derived_texts r s)
    same-derived_texts s h = (refl, holds-rest s (derived_texts r s) (rest-derived_texts r s) h)

    same-with_error : (z : ℤ) (s : Span) → Holds c s → Kept (with_error z s) (with_error z s)
    unfolding with_error
    same-with_error z s h = (refl, record { meta = h.meta; metrics = h.metrics; links = h.links; events = h.events })

    same-links : (s : Span) → Holds c s → Kept (links f s) (links f s)
    unfolding links
    same-links s h = (refl, record { meta = h.meta; metrics = h.metrics; links = h.links; events = h.events })

    -- the keys of the program's own
    same-span_kind : (s : Span) → Holds c s → Kept (span_kind c.n f s) (span_kind c.k f s)
    unfolding span_kind
    same-span_kind s h = own_key s h (codes "span.kind") (kind_form (own f (codes "datadog.span.kind")) f.kind) refl

    same-status_code : (s : Span) → Holds c s → Kept (status_code c.n r s) (status_code c.k r s)
    unfolding status_code
    same-status_code s h = test (field_status_code r == 0) _ _ _ _ (stays s h) (own_key s h (codes "http.status_code") (placed (decimal (field_status_code r))) refl)

    same-measured : (s : Span) → Holds c s → Kept (measured f s) (measured f s)
    unfolding measured
    same-measured s h = test (says_one (number_in (own f (codes "_dd.measured"))) || calls_out f.kind) _ _ _ _ (metric s h (quoted (codes "_dd.measured")) one (c.own_metrics (codes "_dd.measured") refl)) (stays s h)

    same-own_meta : (j m : List ℕ) → In m own_meta_keys → (s t : Span) → Kept s t → Kept (own_meta c.n f j m s) (own_meta c.k f j m t)
    unfolding own_meta
    same-own_meta j m i = step (own_meta c.n f j m) (own_meta c.k f j m) (λ s h. own_given s h m (string_form (own f j)) i)

    same-trace_id : (s : Span) → Holds c s → Kept (trace_id c.n f s) (trace_id c.k f s)
    unfolding trace_id
    same-trace_id s h = own_key s h (codes "otel.trace_id") (placed (id_digits f.trace_high ++ id_digits f.trace_low)) refl

    same-version : (s : Span) → Holds c s → Kept (version c.n f s) (version c.k f s)
    unfolding version
    same-version s h = test (is_some (found (codes "version") s.meta)) _ _ _ _ (stays s h) (own_given s h (codes "version") (display_form (of_resource f (codes "service.version"))) refl)

    same-env : (s : Span) → Holds c s → Kept (env c.n r s) (env c.k r s)
    unfolding env
    same-env s h = test (is_some (found (codes "env") s.meta)) _ _ _ _ (stays s h) (own_given s h (codes "env") (placed (environment r)) refl)

    same-has_exception : (s : Span) → Holds c s → Kept (has_exception c.n s) (has_exception c.k s)
    unfolding has_exception
    same-has_exception s h = test (any_exception s.events) _ _ _ _ (own_key s h (codes "_dd.span_events.has_exception") (quoted (codes "true")) refl) (stays s h)

    same-trace_state : (s : Span) → Holds c s → Kept (trace_state c.n f s) (trace_state c.k f s)
    unfolding trace_state
    same-trace_state s h = own_given s h (codes "w3c.tracestate") (lent f.trace_state) refl

    same-scope : (s : Span) → Holds c s → Kept (scope c.n f s) (scope c.k f s)
    unfolding scope
    same-scope s h =
        step (put_given c.n (quoted (codes "otel.scope.version")) (lent f.scope_version)) (put_given c.k (quoted (codes "otel.scope.version")) (lent f.scope_version)) (λ u g. own_given u g (codes "otel.scope.version") (lent f.scope_version) refl) _ _
        (own_given s h (codes "otel.scope.name") (lent f.scope_name) refl)

    same-status : (s : Span) → Holds c s → Kept (status c.n f s) (status c.k f s)
    unfolding status
    same-status s h =
        step (put_given c.n (quoted (codes "otel.status_description")) (lent (described f))) (put_given c.k (quoted (codes "otel.status_description")) (lent (described f))) (λ u g. own_given u g (codes "otel.status_description") (lent (described f)) refl) _ _
        (own_key s h (codes "otel.status_code") (quoted (status_word f.status)) refl)

    -- rows
    same-resource_row : (a : RowFact) → c.MetaKey (bytes_of (row_key a)) → (s : Span) → Holds c s → Kept (resource_row c.n a s) (resource_row c.k a s)
    unfolding resource_row
    same-resource_row a i s h = text s h (row_key a) (string_form (datum_at a)) i

    same-scope_row : (a : RowFact) → c.MetaKey a.key → (s : Span) → Holds c s → Kept (scope_row c.n a s) (scope_row c.k a s)
    unfolding scope_row
    same-scope_row a i s h = meta s h (lent a.key) (display_form (datum_at a)) i

    same-by_metric : (a : RowFact) → c.MetaKey (bytes_of (row_key a)) × c.MetricsKey (number_key (bytes_of (row_key a))) → (s : Span) → Holds c s → (m : Option ℕ) → Kept (by_metric c.n a m s) (by_metric c.k a m s)
    same-by_metric a i s h None = text s h (row_key a) (string_form (datum_at a)) i.0
    same-by_metric a i s h (Some v) = number s h (row_key a) v i.1

    same-span_row : (a : RowFact) → c.MetaKey (bytes_of (row_key a)) × c.MetricsKey (number_key (bytes_of (row_key a))) → (s : Span) → Holds c s → Kept (span_row c.n a s) (span_row c.k a s)
    unfolding span_row
    same-span_row a i s h = test (begins (codes "datadog.") a.key) _ _ _ _ (stays s h) (same-by_metric a i s h (metric_form (datum_at a)))

    -- the error
    same-put_found : (j : List ℕ) → In j own_meta_keys → (o : Option (Option Datum)) (s : Span) → Holds c s → Kept (put_found c.n j o s) (put_found c.k j o s)
    unfolding put_found
    same-put_found j i None s h = stays s h
    same-put_found j i (Some d) s h = own_key s h j (plain_form d) i

    same-exception : (e : Event) (s : Span) → Holds c s → Kept (exception c.n e s) (exception c.k e s)
    unfolding exception exception_texts
    same-exception e s h =
        let x = found (codes "exception.message") e.attributes in
        let y = found (codes "exception.type") e.attributes in
        let z = found (codes "exception.stacktrace") e.attributes in
        test (is_exception e) _ _ _ _
        (step (put_found c.n (codes "error.stack") z) (put_found c.k (codes "error.stack") z) (same-put_found (codes "error.stack") refl z) _ _
        (step (put_found c.n (codes "error.type") y) (put_found c.k (codes "error.type") y) (same-put_found (codes "error.type") refl y) _ _
        (same-put_found (codes "error.message") refl x s h)))
        (stays s h)

    same-code_message : (o d : Option Text) (s : Span) → Holds c s → Kept (code_message c.n o d s) (code_message c.k o d s)
    unfolding code_message
    same-code_message None d s h = stays s h
    same-code_message (Some x) None s h = again s h (quoted (codes "error.message")) x (c.own_meta (codes "error.message") refl)
    same-code_message (Some x) (Some y) s h = own_key s h (codes "error.message") (placed (bytes_of x ++ (codes " " ++ bytes_of y))) refl

    same-said_message : (t : Text) (s : Span) → Holds c s → Kept (said_message c.n t s) (said_message c.k t s)
    unfolding said_message other_message
    same-said_message t s h =
        test (is_empty (bytes_of t)) _ _ _ _
        (same-code_message (or_other (found (codes "http.response.status_code") s.meta) (found (codes "http.status_code") s.meta)) (found (codes "http.status_text") s.meta) s h)
        (own_key s h (codes "error.message") t refl)

    same-message : (s : Span) → Holds c s → Kept (message c.n f s) (message c.k f s)
    unfolding message
    same-message s h = test (is_some (found (codes "error.message") s.meta)) _ _ _ _ (stays s h) (same-said_message (lent (described f)) s h)

    same-by_status : (s : Span) → Holds c s → Kept (by_status c.n f s) (by_status c.k f s)
    unfolding by_status
    same-by_status s h =
        test (is_error f.status) _ _ _ _
        (step (with_error (pos 1)) (with_error (pos 1)) (same-with_error (pos 1)) _ _
        (step (message c.n f) (message c.k f) same-message _ _
        (loop (exception c.n) (exception c.k) (λ e. Unit {0}) (λ e u. same-exception e) s.events (all-of (λ e. Unit {0}) (λ e. tt) s.events) s s (stays s h))))
        (same-with_error (pos 0) s h)

    same-last_error : (s : Span) → Holds c s → Kept (last_error c.n f s) (last_error c.k f s)
    unfolding last_error
    same-last_error s h = test (all_told s) _ _ _ _ (stays s h) (same-by_status s h)

    -- the four parts
    same-minimal : Holds c (begun f) → Kept (minimal_from c.n f r (begun f)) (minimal_from c.k f r (begun f))
    unfolding minimal_from
    same-minimal h =
        step (measured f) (measured f) same-measured _ _
        (step (status_code c.n r) (status_code c.k r) same-status_code _ _
        (step (derived_texts r) (derived_texts r) same-derived_texts _ _
        (step (span_kind c.n f) (span_kind c.k f) same-span_kind _ _ (step (first_error f) (first_error f) same-first_error _ _ (same-own_texts (begun f) h)))))

    same-six_own : (s t : Span) → Kept s t → Kept (six_own c.n f s) (six_own c.k f t)
    unfolding six_own
    same-six_own s t q =
        same-own_meta (codes "datadog.error.stack") (codes "error.stack") refl _ _
        (same-own_meta (codes "datadog.error.type") (codes "error.type") refl _ _
        (same-own_meta (codes "datadog.error.msg") (codes "error.message") refl _ _
        (same-own_meta (codes "datadog.http_status_code") (codes "http.status_code") refl _ _
        (same-own_meta (codes "datadog.version") (codes "version") refl _ _ (same-own_meta (codes "datadog.env") (codes "env") refl s t q)))))

    same-of_resource_and_scope : Keyed c f → (s t : Span) → Kept s t → Kept (of_resource_and_scope c.n f s) (of_resource_and_scope c.k f t)
    unfolding of_resource_and_scope
    same-of_resource_and_scope i s t q =
        step (version c.n f) (version c.k f) same-version _ _
        (step (trace_id c.n f) (trace_id c.k f) same-trace_id _ _
        (loop (scope_row c.n) (scope_row c.k) (λ (a : RowFact). c.MetaKey a.key) same-scope_row (of_list 2 f.rows) i.scope _ _
        (loop (resource_row c.n) (resource_row c.k) (λ a. c.MetaKey (bytes_of (row_key a))) same-resource_row (of_list 1 f.rows) i.resource _ _ (same-six_own s t q))))

    same-of_span : Keyed c f → (s t : Span) → Kept s t → Kept (of_span c.n f r s) (of_span c.k f r t)
    unfolding of_span
    same-of_span i s t q =
        step (links f) (links f) same-links _ _
        (step (env c.n r) (env c.k r) same-env _ _
        (loop (span_row c.n) (span_row c.k) (λ a. c.MetaKey (bytes_of (row_key a)) × c.MetricsKey (number_key (bytes_of (row_key a)))) same-span_row (of_list 0 f.rows) i.span s t q))

    same-at_the_end : (s t : Span) → Kept s t → Kept (at_the_end c.n f s) (at_the_end c.k f t)
    unfolding at_the_end end_texts
    same-at_the_end s t q =
        step (last_error c.n f) (last_error c.k f) same-last_error _ _
        (step (status c.n f) (status c.k f) same-status _ _
        (step (scope c.n f) (scope c.k f) same-scope _ _ (step (trace_state c.n f) (trace_state c.k f) same-trace_state _ _ (step (has_exception c.n) (has_exception c.k) same-has_exception s t q))))

    pub steps-kept : Keyed c f → Holds c (begun f) → Kept (steps c.n f r) (steps c.k f r)
    unfolding steps_from
    steps-kept i h = same-at_the_end _ _ (same-of_span i _ _ (same-of_resource_and_scope i _ _ (same-minimal h)))
