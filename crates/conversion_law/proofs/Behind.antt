-- No step behind `derived_texts` reads or writes the four texts: of two spans that differ in them and the arena alone it makes two
-- that differ in the same.
use Rattle.std.proofs.Common.{◌≡◌, ℕ, ◌==◌, Bool, true, false, cond, ◌&&◌, ◌||◌, ℤ, Some, None, Option, is_some, codes, List, [], ◌∷◌, bytes_eq, pos, refl, sym, ap, subst}
use Rattle.values.specs.Atoms.{Datum}
use Rattle.blocks.specs.Facts.{RowFact, Facts}
use Rattle.blocks.specs.Projections.{of_list}
use Rattle.readers.specs.Reading.{Reading}
use Rattle.readers.specs.DatadogKeys.{begins}
use Rattle.derived.specs.Fields.{environment, field_status_code}
use Rattle.span_args.specs.ReadingOf.{datum_at}
use Rattle.conversion.specs.Spans.{Text, quoted, lent, placed, bytes_of, Event, Span, found}
use Rattle.conversion.specs.Forms.{display_form, metric_form, number_in, own, of_resource, parsed_bool}
use Rattle.conversion.specs.Steps.{put, put_meta, put_again, put_metric, put_given, put_sampling, put_text, put_number, each, is_empty, is_meta_key, says_something, status_code, says_one, calls_out, measured, own_meta, six_own, by_metric, resource_row, scope_row, span_row, trace_id, version, env, links, any_exception, has_exception, trace_state, scope, status, put_found, is_exception, exception, described, or_other, code_message, other_message, said_message, message, exception_texts, with_error, by_status, all_told, is_error, last_error, of_resource_and_scope, of_span, end_texts, at_the_end}
use Rattle.conversion_law.proofs.Singles.{Four, four, without_four}

abbrev pub with_no_arena : Span → Span
with_no_arena s = record s { arena = [] }

abbrev pub with_four : Four → Span → Span
with_four x s = record s { service = x.0; name = x.1; resource = x.2; type = x.3; arena = [] }

-- t is s but for the four texts, which are x, and the arena
pub record AllBut (x : Four) (s t : Span) : Type 0 where
  pub is : with_no_arena t ≡ with_four x s

pub all-but : (s t : Span) → without_four s ≡ without_four t → AllBut (four t) s t
all-but s t e = record { is = ap (with_four (four t)) (sym e) }

module _ (x : Four) where
  abbrev pub Passes : (Span → Span) → Type 0
  Passes step = (s t : Span) → AllBut x s t → AllBut x (step s) (step t)

  either : (b c : Bool) → b ≡ c → (s t u v : Span) → AllBut x s t → AllBut x u v → AllBut x (cond c s u) (cond b t v)
  either b c e s t u v h k = subst (λ z. AllBut x (cond c s u) (cond z t v)) (sym e) (by c)
    where
      by : (c : Bool) → AllBut x (cond c s u) (cond c t v)
      by true = h
      by false = k

  passes-each : {X : Type 0} (step : X → Span → Span) → ((a : X) → Passes (step a)) → (xs : List X) → Passes (each step xs)
  unfolding each
  passes-each step p [] s t h = h
  passes-each step p (a ∷ xs) s t h = passes-each step p xs (step a s) (step a t) (p a s t h)

  passes-put_metric : (k : Text) (v : ℕ) → Passes (put_metric k v)
  unfolding put_metric
  passes-put_metric k v s t h = record { is = λ i. record (h.is i) { metrics = put 130 k v (h.is i).metrics } }

  passes-put_sampling : (o : Option Bool) → Passes (put_sampling o)
  unfolding put_sampling
  passes-put_sampling None s t h = h
  passes-put_sampling (Some b) s t h = passes-put_metric _ _ s t h

  passes-put_number : (k : Text) (v : ℕ) → Passes (put_number k v)
  unfolding put_number
  passes-put_number k v s t h =
      let p = codes "sampling.priority" in
      either (is_empty (bytes_of k)) _ refl s t _ _ h
      (either _ _ (ap (λ (z : Span). is_meta_key (bytes_of k) && is_some (found (bytes_of k) z.metrics)) h.is) s t _ _ h
      (either (bytes_eq (bytes_of k) p) _ refl _ _ _ _ (passes-put_metric _ v s t h) (passes-put_metric k v s t h)))

  passes-with_error : (z : ℤ) → Passes (with_error z)
  unfolding with_error
  passes-with_error z s t h = record { is = λ i. record (h.is i) { error = z } }

  passes-links : (f : Facts) → Passes (links f)
  unfolding links
  passes-links f s t h = record { is = h.is }

  passes-measured : (f : Facts) → Passes (measured f)
  unfolding measured
  passes-measured f s t h = either (says_one (number_in (own f (codes "_dd.measured"))) || calls_out f.kind) _ refl _ _ s t (passes-put_metric _ _ s t h) h

  module _ (n : ℕ) where
    passes-put_meta : (k v : Text) → Passes (put_meta n k v)
    unfolding put_meta
    passes-put_meta k v s t h = record { is = λ i. record (h.is i) { meta = put n k v (h.is i).meta } }

    passes-put_again : (k v : Text) → Passes (put_again n k v)
    unfolding put_again
    passes-put_again k v s t h = record { is = λ i. record (h.is i) { meta = put n k v (h.is i).meta } }

    passes-put_given : (k v : Text) → Passes (put_given n k v)
    unfolding put_given
    passes-put_given k v s t h = either (is_empty (bytes_of v)) _ refl s t _ _ h (passes-put_meta k v s t h)

    -- rows
    passes-put_text : (k v : Text) → Passes (put_text n k v)
    unfolding put_text
    passes-put_text k v s t h =
        either (is_empty (bytes_of k)) _ refl s t _ _ h
        (either _ _ (ap (λ (z : Span). is_meta_key (bytes_of k) && says_something (found (bytes_of k) z.meta)) h.is) s t _ _ h
        (either (bytes_eq (bytes_of k) (codes "analytics.event")) _ refl _ _ _ _ (passes-put_sampling (parsed_bool (bytes_of v)) s t h) (passes-put_meta k v s t h)))

    passes-by_metric : (a : RowFact) (o : Option ℕ) → Passes (by_metric n a o)
    passes-by_metric a None s t h = passes-put_text _ _ s t h
    passes-by_metric a (Some p) s t h = passes-put_number _ p s t h

    passes-resource_row : (a : RowFact) → Passes (resource_row n a)
    unfolding resource_row
    passes-resource_row a s t h = passes-put_text _ _ s t h

    passes-span_row : (a : RowFact) → Passes (span_row n a)
    unfolding span_row
    passes-span_row a s t h = either (begins (codes "datadog.") a.key) _ refl s t _ _ h (passes-by_metric a (metric_form (datum_at a)) s t h)

    passes-scope_row : (a : RowFact) → Passes (scope_row n a)
    unfolding scope_row
    passes-scope_row a s t h = passes-put_meta _ _ s t h

    -- events
    passes-has_exception : Passes (has_exception n)
    unfolding has_exception
    passes-has_exception s t h = either _ _ (ap (λ (z : Span). any_exception z.events) h.is) _ _ s t (passes-put_meta _ _ s t h) h

    passes-put_found : (k : List ℕ) (o : Option (Option Datum)) → Passes (put_found n k o)
    unfolding put_found
    passes-put_found k None s t h = h
    passes-put_found k (Some d) s t h = passes-put_meta _ _ s t h

    passes-exception : (e : Event) → Passes (exception n e)
    unfolding exception exception_texts
    passes-exception e s t h = either (is_exception e) _ refl _ _ s t (passes-put_found _ _ _ _ (passes-put_found _ _ _ _ (passes-put_found _ _ s t h))) h

    passes-exceptions : Passes (λ s. each (exception n) s.events s)
    passes-exceptions s t h =
        subst (λ es. AllBut x (each (exception n) s.events s) (each (exception n) es t)) (sym (ap (λ (z : Span). z.events) h.is)) (passes-each (exception n) passes-exception s.events s t h)

    -- the error's message
    passes-code_message : (c o : Option Text) → Passes (code_message n c o)
    unfolding code_message
    passes-code_message None o s t h = h
    passes-code_message (Some c) None s t h = passes-put_again _ _ s t h
    passes-code_message (Some c) (Some o) s t h = passes-put_meta _ _ s t h

    passes-other_message : Passes (other_message n)
    unfolding other_message
    passes-other_message s t h =
        let code : List (Text × Text) → Option Text = λ m. or_other (found (codes "http.response.status_code") m) (found (codes "http.status_code") m) in
        let text : List (Text × Text) → Option Text = λ m. found (codes "http.status_text") m in
        subst (λ m. AllBut x (code_message n (code s.meta) (text s.meta) s) (code_message n (code m) (text m) t)) (sym (ap (λ (z : Span). z.meta) h.is)) (passes-code_message (code s.meta) (text s.meta) s t h)

    passes-said_message : (v : Text) → Passes (said_message n v)
    unfolding said_message
    passes-said_message v s t h = either (is_empty (bytes_of v)) _ refl _ _ _ _ (passes-other_message s t h) (passes-put_meta _ v s t h)

    -- what is put unless a key is there
    passes-unless : (k : List ℕ) (step : Span → Span) → Passes step → Passes (λ s. cond (is_some (found k s.meta)) s (step s))
    passes-unless k step p s t h = either _ _ (ap (λ (z : Span). is_some (found k z.meta)) h.is) s t (step s) (step t) h (p s t h)

    module _ (f : Facts) where
      passes-own_meta : (k m : List ℕ) → Passes (own_meta n f k m)
      unfolding own_meta
      passes-own_meta k m s t h = passes-put_given _ _ s t h

      passes-six_own : Passes (six_own n f)
      unfolding six_own
      passes-six_own s t h =
          passes-own_meta _ _ _ _ (passes-own_meta _ _ _ _ (passes-own_meta _ _ _ _ (passes-own_meta _ _ _ _ (passes-own_meta _ _ _ _ (passes-own_meta _ _ s t h)))))

      passes-trace_id : Passes (trace_id n f)
      unfolding trace_id
      passes-trace_id s t h = passes-put_meta _ _ s t h

      passes-version : Passes (version n f)
      unfolding version
      passes-version s t h = passes-unless (codes "version") _ (passes-put_given (quoted (codes "version")) (display_form (of_resource f (codes "service.version")))) s t h

      passes-of_resource_and_scope : Passes (of_resource_and_scope n f)
      unfolding of_resource_and_scope
      passes-of_resource_and_scope s t h =
          passes-version _ _
          (passes-trace_id _ _ (passes-each (scope_row n) passes-scope_row (of_list 2 f.rows) _ _ (passes-each (resource_row n) passes-resource_row (of_list 1 f.rows) _ _ (passes-six_own s t h))))

      passes-env : (r : Reading) → Passes (env n r)
      unfolding env
      passes-env r s t h = passes-unless (codes "env") _ (passes-put_given (quoted (codes "env")) (placed (environment r))) s t h

      passes-of_span : (r : Reading) → Passes (of_span n f r)
      unfolding of_span
      passes-of_span r s t h = passes-links f _ _ (passes-env r _ _ (passes-each (span_row n) passes-span_row (of_list 0 f.rows) s t h))

      passes-end_texts : Passes (end_texts n f)
      unfolding end_texts status scope trace_state
      passes-end_texts s t h = passes-put_given _ _ _ _ (passes-put_meta _ _ _ _ (passes-put_given _ _ _ _ (passes-put_given _ _ _ _ (passes-put_given _ _ s t h))))

      passes-message : Passes (message n f)
      unfolding message
      passes-message s t h = passes-unless (codes "error.message") _ (passes-said_message (lent (described f))) s t h

      passes-by_status : Passes (by_status n f)
      unfolding by_status
      passes-by_status s t h = either (is_error f.status) _ refl _ _ _ _ (passes-with_error (pos 1) _ _ (passes-message _ _ (passes-exceptions s t h))) (passes-with_error (pos 0) s t h)

      passes-last_error : Passes (last_error n f)
      unfolding last_error
      passes-last_error s t h = either _ _ (ap all_told h.is) s t _ _ h (passes-by_status s t h)

      passes-at_the_end : Passes (at_the_end n f)
      unfolding at_the_end
      passes-at_the_end s t h = passes-last_error _ _ (passes-end_texts _ _ (passes-has_exception s t h))

      passes-status_code : (r : Reading) → Passes (status_code n r)
      unfolding status_code
      passes-status_code r s t h = either (field_status_code r == 0) _ refl s t _ _ h (passes-put_meta _ _ s t h)

-- all steps behind `derived_texts`
abbrev pub behind : ℕ → Facts → Reading → Span → Span
behind n f r s = at_the_end n f (of_span n f r (of_resource_and_scope n f (measured f (status_code n r s))))

pub passes-behind : (x : Four) (n : ℕ) (f : Facts) (r : Reading) → Passes x (behind n f r)
passes-behind x n f r s t h =
    passes-at_the_end x n f _ _ (passes-of_span x n f r _ _ (passes-of_resource_and_scope x n f _ _ (passes-measured x f _ _ (passes-status_code x n f r s t h))))
