-- The steps, one after another, keep spans alike.
use Rattle.std.proofs.Common.{◌≡◌, ℕ, ◌≤◌, ◌==◌, ◌-◌, cond, ◌||◌, List, [], ◌∷◌, ◌++◌, map, pos, codes, decimal, IsPermutation, sym, refl, ap, ◌∙◌, subst}
use Rattle.std.specs.List.{AllByRecursion}
use Rattle.blocks.specs.Facts.{Facts}
use Rattle.blocks.specs.Projections.{of_list}
use Rattle.readers.specs.Reading.{Reading}
use Rattle.derived.specs.Fields.{environment, field_status_code}
use Rattle.conversion.specs.Constants.{status_word}
use Rattle.conversion.specs.Spans.{quoted, lent, placed, Span}
use Rattle.conversion.specs.Forms.{string_form, display_form, number_in, since_1970, int32, one, own, of_resource}
use Rattle.conversion.specs.Steps.{put_meta, put_metric, put_given, each, begun, own_texts, is_error, error_by, first_error, kind_form, span_kind, derived_texts, status_code, calls_out, says_one, measured, own_meta, six_own, resource_row, span_row, scope_row, id_digits, trace_id, version, env, link_of, links, event_of, trace_state, scope, described, status, message, by_status, all_told, last_error, minimal_from, of_resource_and_scope, of_span, end_texts, at_the_end, steps_from, steps}
use Rattle.conversion_law.specs.SameFacts.{SameElse}
use Rattle.conversion_law.specs.SameDerived.{SameDerived}
use Rattle.conversion_law.specs.Given.{Given}
use Rattle.conversion_law.proofs.Singles.{four, rest-own_texts, four-own_texts, rest-derived_texts, four-derived_texts, same-own_four, same-derived_four}
use Rattle.conversion_law.proofs.Tables.{In, table-nil}
use Rattle.conversion_law.proofs.Kept.{own_meta_keys}
use Rattle.conversion_law.proofs.Fits.{Keys}
use Rattle.conversion_law.proofs.Alike.{Alike, resource-rows-alike, span-rows-alike}
use Rattle.conversion_law.proofs.Renaming.{Renaming, renamed_row, read_keys}
use Rattle.conversion_law.proofs.Own.{datum-same}
use Rattle.conversion_law.proofs.Fixed.{alike-cond, alike-put_meta, alike-put_given, alike-put_metric, same-there, alike-rest, alike-four, scope-rows-alike, alike-has_exception, alike-exceptions, alike-said_message, alike-with_error, same-all_told}
use Rattle.conversion_law.proofs.RowKeys.{keys-of, RowsIn, rows-in}

-- facts that are equal in other names, the attributes of span and resource in any order
pub record SameUnder (ren : Renaming) (f g : Facts) : Type 0 where
  pub others : SameElse f g
  pub of_span : IsPermutation (map (renamed_row ren) (of_list 0 f.rows)) (map (renamed_row ren) (of_list 0 g.rows))
  pub of_resource : IsPermutation (map (renamed_row ren) (of_list 1 f.rows)) (map (renamed_row ren) (of_list 1 g.rows))

both-all : {X : Type 0} (P Q : X → Type 0) (xs : List X) → AllByRecursion P xs → AllByRecursion Q xs → AllByRecursion (λ x. P x × Q x) xs
both-all P Q [] a b = tt
both-all P Q (x ∷ xs) a b = ((a.0, b.0), both-all P Q xs a.1 b.1)

module _ (n : ℕ) (ren : Renaming) (p q : Keys n) (f g : Facts) (a b : Reading) (same : SameUnder ren f g) (tf : Given f) (tg : Given g) (r : SameDerived a b) (ip : RowsIn p f) (iq : RowsIn q g) where
  -- under a key that steps look for
  own-same : (k : List ℕ) → In k read_keys → own f k ≡ own g k
  own-same k i = datum-same ren k (ren.keeps.reads k i) 0 f g same.of_span tf.once.of_span tg.once.of_span

  resource-same : (k : List ℕ) → In k read_keys → of_resource f k ≡ of_resource g k
  resource-same k i = datum-same ren k (ren.keeps.reads k i) 1 f g same.of_resource tf.once.of_resource tg.once.of_resource

  alike-begun : Alike ren p q (begun f) (begun g)
  alike-begun =
      record {
        left = record { meta = table-nil p.meta; metrics = table-nil p.metrics };
        right = record { meta = table-nil q.meta; metrics = table-nil q.metrics };
        rest =
            λ i. record {
              service = quoted [];
              name = quoted [];
              resource = quoted [];
              type = quoted [];
              trace_id = same.others.trace_low i;
              span_id = same.others.span_id i;
              parent_id = same.others.parent_id i;
              start = pos (since_1970 (same.others.start i));
              duration = pos (since_1970 (same.others.finish i) - since_1970 (same.others.start i));
              error = pos 0;
              meta = [];
              metrics = [];
              links = map link_of (same.others.links i);
              events = map event_of (same.others.events i);
              arena = [];
            };
        meta = λ k out. refl;
        metrics = λ k out. refl;
      }

  module _ (s t : Span) (h : Alike ren p q s t) where
    alike-own_texts : Alike ren p q (own_texts a s) (own_texts b t)
    alike-own_texts = alike-four ren p q s t h (own_texts a) (own_texts b) (rest-own_texts a) (rest-own_texts b) (four-own_texts a s ∙ same-own_four a b r ∙ sym (four-own_texts b t))

    alike-first_error : Alike ren p q (first_error f s) (first_error g t)
    unfolding first_error
    alike-first_error = alike-rest ren p q s t h (first_error f) (first_error g) (λ z. refl) (λ z. refl) (λ z. refl) (λ z. refl) (λ i. record (h.rest i) { error = error_by (int32 (number_in (own-same (codes "datadog.error") refl i))) (same.others.status i) })

    alike-span_kind : Alike ren p q (span_kind n f s) (span_kind n g t)
    unfolding span_kind
    alike-span_kind = alike-put_meta ren p q s t h (codes "span.kind") (kind_form (own f (codes "datadog.span.kind")) f.kind) (kind_form (own g (codes "datadog.span.kind")) g.kind) refl (λ i. kind_form (own-same (codes "datadog.span.kind") refl i) (same.others.kind i))

    alike-derived_texts : Alike ren p q (derived_texts a s) (derived_texts b t)
    alike-derived_texts =
        alike-four ren p q s t h (derived_texts a) (derived_texts b) (rest-derived_texts a) (rest-derived_texts b)
        (four-derived_texts a s ∙ same-derived_four a b r (four s) (four t) (ap four h.rest) ∙ sym (four-derived_texts b t))

    alike-status_code : Alike ren p q (status_code n a s) (status_code n b t)
    unfolding status_code
    alike-status_code =
        let k = codes "http.status_code" in
        let v = placed (decimal (field_status_code a)) in
        let w = placed (decimal (field_status_code b)) in
        alike-cond ren p q (field_status_code a == 0) (field_status_code b == 0) s t (put_meta n (quoted k) v s) (put_meta n (quoted k) w t) (ap (λ z. z == 0) r.status_code) h (alike-put_meta ren p q s t h k v w refl (ap (λ z. placed (decimal z)) r.status_code))

    alike-measured : Alike ren p q (measured f s) (measured g t)
    unfolding measured
    alike-measured =
        let k = codes "_dd.measured" in
        alike-cond ren p q (says_one (number_in (own f k)) || calls_out f.kind) (says_one (number_in (own g k)) || calls_out g.kind) (put_metric (quoted k) one s) (put_metric (quoted k) one t) s t (λ i. says_one (number_in (own-same (codes "_dd.measured") refl i)) || calls_out (same.others.kind i)) (alike-put_metric ren p q s t h k one refl) h

    -- one of the six
    alike-own_meta : (k m : List ℕ) → own f k ≡ own g k → In m own_meta_keys → Alike ren p q (own_meta n f k m s) (own_meta n g k m t)
    unfolding own_meta
    alike-own_meta k m e i = alike-put_given ren p q s t h m (string_form (own f k)) (string_form (own g k)) i (ap string_form e)

    alike-trace_id : Alike ren p q (trace_id n f s) (trace_id n g t)
    unfolding trace_id
    alike-trace_id = alike-put_meta ren p q s t h (codes "otel.trace_id") (placed (id_digits f.trace_high ++ id_digits f.trace_low)) (placed (id_digits g.trace_high ++ id_digits g.trace_low)) refl (λ i. placed (id_digits (same.others.trace_high i) ++ id_digits (same.others.trace_low i)))

    alike-version : Alike ren p q (version n f s) (version n g t)
    unfolding version
    alike-version =
        let k = codes "version" in
        let v = display_form (of_resource f (codes "service.version")) in
        let w = display_form (of_resource g (codes "service.version")) in
        alike-cond ren p q _ _ s t (put_given n (quoted k) v s) (put_given n (quoted k) w t) (same-there ren p q s t h k refl) h (alike-put_given ren p q s t h k v w refl (ap display_form (resource-same (codes "service.version") refl)))

    alike-env : Alike ren p q (env n a s) (env n b t)
    unfolding env
    alike-env =
        let k = codes "env" in
        alike-cond ren p q _ _ s t (put_given n (quoted k) (placed (environment a)) s) (put_given n (quoted k) (placed (environment b)) t) (same-there ren p q s t h k refl) h (alike-put_given ren p q s t h k (placed (environment a)) (placed (environment b)) refl (ap placed r.environment))

    alike-links : Alike ren p q (links f s) (links g t)
    unfolding links
    alike-links = alike-rest ren p q s t h (links f) (links g) (λ z. refl) (λ z. refl) (λ z. refl) (λ z. refl) h.rest

    alike-trace_state : Alike ren p q (trace_state n f s) (trace_state n g t)
    unfolding trace_state
    alike-trace_state = alike-put_given ren p q s t h (codes "w3c.tracestate") (lent f.trace_state) (lent g.trace_state) refl (ap lent same.others.trace_state)

    alike-scope_name : Alike ren p q (put_given n (quoted (codes "otel.scope.name")) (lent f.scope_name) s) (put_given n (quoted (codes "otel.scope.name")) (lent g.scope_name) t)
    alike-scope_name = alike-put_given ren p q s t h (codes "otel.scope.name") (lent f.scope_name) (lent g.scope_name) refl (ap lent same.others.scope_name)

    alike-scope_version : Alike ren p q (put_given n (quoted (codes "otel.scope.version")) (lent f.scope_version) s) (put_given n (quoted (codes "otel.scope.version")) (lent g.scope_version) t)
    alike-scope_version = alike-put_given ren p q s t h (codes "otel.scope.version") (lent f.scope_version) (lent g.scope_version) refl (ap lent same.others.scope_version)

    alike-status_word : Alike ren p q (put_meta n (quoted (codes "otel.status_code")) (quoted (status_word f.status)) s) (put_meta n (quoted (codes "otel.status_code")) (quoted (status_word g.status)) t)
    alike-status_word = alike-put_meta ren p q s t h (codes "otel.status_code") (quoted (status_word f.status)) (quoted (status_word g.status)) refl (λ i. quoted (status_word (same.others.status i)))

    same-described : described f ≡ described g
    same-described = λ i. cond (is_error (same.others.status i)) (same.others.description i) []

    alike-described : Alike ren p q (put_given n (quoted (codes "otel.status_description")) (lent (described f)) s) (put_given n (quoted (codes "otel.status_description")) (lent (described g)) t)
    alike-described = alike-put_given ren p q s t h (codes "otel.status_description") (lent (described f)) (lent (described g)) refl (ap lent same-described)

    alike-message : Alike ren p q (message n f s) (message n g t)
    unfolding message
    alike-message = alike-cond ren p q _ _ s t _ _ (same-there ren p q s t h (codes "error.message") refl) h (alike-said_message ren p q (lent (described f)) (lent (described g)) (ap lent same-described) s t h)

    alike-resource : Alike ren p q (each (resource_row n) (of_list 1 f.rows) s) (each (resource_row n) (of_list 1 g.rows) t)
    alike-resource = resource-rows-alike ren p q (of_list 1 f.rows) (of_list 1 g.rows) s t h ip.resource iq.resource same.of_resource tf.resource_apart tg.resource_apart

    alike-scope : Alike ren p q (each (scope_row n) (of_list 2 f.rows) s) (each (scope_row n) (of_list 2 g.rows) t)
    alike-scope = scope-rows-alike ren p q (of_list 2 f.rows) (of_list 2 g.rows) same.others.of_scope (both-all (λ a. In a.key p.meta) (λ a. In a.key q.meta) (of_list 2 f.rows) ip.scope (subst (AllByRecursion (λ a. In a.key q.meta)) (sym same.others.of_scope) iq.scope)) s t h

    alike-span : Alike ren p q (each (span_row n) (of_list 0 f.rows) s) (each (span_row n) (of_list 0 g.rows) t)
    alike-span = span-rows-alike ren p q (of_list 0 f.rows) (of_list 0 g.rows) s t h ip.span iq.span same.of_span tf.span_apart tg.span_apart

  -- the four parts
  alike-minimal : Alike ren p q (minimal_from n f a (begun f)) (minimal_from n g b (begun g))
  unfolding minimal_from
  alike-minimal =
      let h1 = alike-own_texts (begun f) (begun g) alike-begun in
      let h2 = alike-first_error (own_texts a (begun f)) (own_texts b (begun g)) h1 in
      let h3 = alike-span_kind (first_error f (own_texts a (begun f))) (first_error g (own_texts b (begun g))) h2 in
      alike-measured _ _ (alike-status_code _ _ (alike-derived_texts _ _ h3))

  module _ (s t : Span) (h : Alike ren p q s t) where
    alike-six : Alike ren p q (six_own n f s) (six_own n g t)
    unfolding six_own
    alike-six =
        alike-own_meta _ _ (alike-own_meta _ _ (alike-own_meta _ _ (alike-own_meta _ _ (alike-own_meta _ _ (alike-own_meta s t h (codes "datadog.env") (codes "env") (own-same (codes "datadog.env") refl) refl) (codes "datadog.version") (codes "version") (own-same (codes "datadog.version") refl) refl)
        (codes "datadog.http_status_code") (codes "http.status_code") (own-same (codes "datadog.http_status_code") refl) refl)
        (codes "datadog.error.msg") (codes "error.message") (own-same (codes "datadog.error.msg") refl) refl)
        (codes "datadog.error.type") (codes "error.type") (own-same (codes "datadog.error.type") refl) refl)
        (codes "datadog.error.stack") (codes "error.stack") (own-same (codes "datadog.error.stack") refl) refl

    alike-of_resource_and_scope : Alike ren p q (of_resource_and_scope n f s) (of_resource_and_scope n g t)
    unfolding of_resource_and_scope
    alike-of_resource_and_scope = alike-version _ _ (alike-trace_id _ _ (alike-scope _ _ (alike-resource _ _ alike-six)))

    alike-of_span : Alike ren p q (of_span n f a s) (of_span n g b t)
    unfolding of_span
    alike-of_span = alike-links _ _ (alike-env _ _ (alike-span s t h))

    alike-by_status : Alike ren p q (by_status n f s) (by_status n g t)
    unfolding by_status
    alike-by_status =
        let m = alike-message _ _ (alike-exceptions ren p q s t h) in
        alike-cond ren p q (is_error f.status) (is_error g.status) _ _ _ _ (ap is_error same.others.status) (alike-with_error ren p q (pos 1) _ _ m) (alike-with_error ren p q (pos 0) s t h)

    alike-last_error : Alike ren p q (last_error n f s) (last_error n g t)
    unfolding last_error
    alike-last_error = alike-cond ren p q (all_told s) (all_told t) s t (by_status n f s) (by_status n g t) (same-all_told ren p q s t h) h alike-by_status

  module _ (s t : Span) (h : Alike ren p q s t) where
    alike-scope_texts : Alike ren p q (scope n f s) (scope n g t)
    unfolding scope
    alike-scope_texts = alike-scope_version _ _ (alike-scope_name s t h)

    alike-status : Alike ren p q (status n f s) (status n g t)
    unfolding status
    alike-status = alike-described _ _ (alike-status_word s t h)

  module _ (s t : Span) (h : Alike ren p q s t) where
    alike-at_the_end : Alike ren p q (at_the_end n f s) (at_the_end n g t)
    unfolding at_the_end end_texts
    alike-at_the_end = alike-last_error _ _ (alike-status _ _ (alike-scope_texts _ _ (alike-trace_state _ _ (alike-has_exception ren p q s t h))))

  alike-steps : Alike ren p q (steps n f a) (steps n g b)
  unfolding steps_from
  alike-steps = alike-at_the_end _ _ (alike-of_span _ _ (alike-of_resource_and_scope _ _ alike-minimal))

-- of facts that are equal in other names, whatever they are read as
pub steps-alike : (ren : Renaming) (n : ℕ) (h : 398 ≤ n) (f g : Facts) (a b : Reading) → SameUnder ren f g → (tf : Given f) (tg : Given g) → SameDerived a b → Alike ren (keys-of n h f tf.few) (keys-of n h g tg.few) (steps n f a) (steps n g b)
steps-alike ren n h f g a b same tf tg r = alike-steps n ren (keys-of n h f tf.few) (keys-of n h g tg.few) f g a b same tf tg r (rows-in n h f tf.few) (rows-in n h g tg.few)
