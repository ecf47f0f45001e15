-- What comes behind the links leaves the arena as it is, and only goes behind.
use Rattle.std.proofs.Common.{◌≡◌, ℕ, Bool, cond, List, [], ◌∷◌, ◌++◌, codes, Some, None, Option, is_some, pos, ℤ, refl, ap, sym, ◌∙◌}
use Rattle.std.proofs.lemmas.Bool.{cond_both}
use Rattle.std.proofs.lemmas.List.{append-nil, append_assoc}
use Rattle.values.specs.Atoms.{Datum}
use Rattle.blocks.specs.Facts.{Facts}
use Rattle.conversion.specs.Constants.{status_word}
use Rattle.conversion.specs.Spans.{Text, Event, Span, quoted, lent, bytes_of, arena_for, found}
use Rattle.conversion.specs.Forms.{plain_form}
use Rattle.conversion.specs.Steps.{put_meta, put_again, put_given, key_arena, each, is_empty, is_error, described, is_exception, any_exception, has_exception, trace_state, scope, status, put_found, exception_texts, exception, or_other, code_message, other_message, said_message, message, with_error, by_status, all_told, last_error, end_texts, at_the_end}

pub record Extends (s e : Span) : Type 0 where
  pub more : List ℕ
  pub is : e.arena ≡ s.arena ++ more

stays : (s : Span) → Extends s s
stays s = record { more = []; is = sym (append-nil s.arena) }

then : (a b c : Span) → Extends a b → Extends b c → Extends a c
then a b c p q = record { more = p.more ++ q.more; is = q.is ∙ ap (λ l. l ++ q.more) p.is ∙ append_assoc a.arena p.more q.more }

either : (t : Bool) (s x y : Span) → Extends s x → Extends s y → Extends s (cond t x y)
either t s x y p q = cond_both t x y (λ (e : Span). Extends s e) (λ _. p) (λ _. q)

module _ (n : ℕ) (k v : Text) (s : Span) where
  under_put_meta : Extends s (put_meta n k v s)
  unfolding put_meta
  under_put_meta = record { more = key_arena k s.meta ++ arena_for v; is = refl }

  under_put_again : Extends s (put_again n k v s)
  unfolding put_again
  under_put_again = record { more = key_arena k s.meta; is = refl }

  under_put_given : Extends s (put_given n k v s)
  unfolding put_given
  under_put_given = either (is_empty (bytes_of v)) s s (put_meta n k v s) (stays s) under_put_meta

under_put_found : (n : ℕ) (k : List ℕ) (o : Option (Option Datum)) (s : Span) → Extends s (put_found n k o s)
unfolding put_found
under_put_found n k None s = stays s
under_put_found n k (Some d) s = under_put_meta n (quoted k) (plain_form d) s

under_exception_texts : (n : ℕ) (e : Event) (s : Span) → Extends s (exception_texts n e s)
unfolding exception_texts
under_exception_texts n e s =
    let m = put_found n (codes "error.message") (found (codes "exception.message") e.attributes) s in
    let t = put_found n (codes "error.type") (found (codes "exception.type") e.attributes) m in
    let x = found (codes "exception.stacktrace") e.attributes in
    then s t (put_found n (codes "error.stack") x t) (then s m t (under_put_found n _ _ s) (under_put_found n _ _ m)) (under_put_found n _ x t)

under_exceptions : (n : ℕ) (es : List Event) (s : Span) → Extends s (each (exception n) es s)
unfolding each exception
under_exceptions n [] s = stays s
under_exceptions n (e ∷ es) s =
    let x = cond (is_exception e) (exception_texts n e s) s in
    then s x (each (exception n) es x) (either (is_exception e) s (exception_texts n e s) s (under_exception_texts n e s) (stays s)) (under_exceptions n es x)

module _ (n : ℕ) (s : Span) where
  under_code_message : (c t : Option Text) → Extends s (code_message n c t s)
  unfolding code_message
  under_code_message None t = stays s
  under_code_message (Some c) None = under_put_again n (quoted (codes "error.message")) c s
  under_code_message (Some c) (Some t) = under_put_meta n (quoted (codes "error.message")) _ s

  under_other_message : Extends s (other_message n s)
  unfolding other_message
  under_other_message = under_code_message (or_other (found (codes "http.response.status_code") s.meta) (found (codes "http.status_code") s.meta)) (found (codes "http.status_text") s.meta)

  under_said_message : (t : Text) → Extends s (said_message n t s)
  unfolding said_message
  under_said_message t = either (is_empty (bytes_of t)) s (other_message n s) (put_meta n (quoted (codes "error.message")) t s) under_other_message (under_put_meta n _ t s)

  under_has_exception : Extends s (has_exception n s)
  unfolding has_exception
  under_has_exception = either (any_exception s.events) s (put_meta n (quoted (codes "_dd.span_events.has_exception")) (quoted (codes "true")) s) s (under_put_meta n _ _ s) (stays s)

under_with_error : (z : ℤ) (a s : Span) → Extends a s → Extends a (with_error z s)
unfolding with_error
under_with_error z a s p = record { more = p.more; is = p.is }

module _ (n : ℕ) (f : Facts) (s : Span) where
  under_message : Extends s (message n f s)
  unfolding message
  under_message = either (is_some (found (codes "error.message") s.meta)) s s (said_message n (lent (described f)) s) (stays s) (under_said_message n s (lent (described f)))

  under_trace_state : Extends s (trace_state n f s)
  unfolding trace_state
  under_trace_state = under_put_given n (quoted (codes "w3c.tracestate")) (lent f.trace_state) s

  under_scope : Extends s (scope n f s)
  unfolding scope
  under_scope =
      let m = put_given n (quoted (codes "otel.scope.name")) (lent f.scope_name) s in
      then s m (put_given n (quoted (codes "otel.scope.version")) (lent f.scope_version) m) (under_put_given n _ _ s) (under_put_given n _ _ m)

  under_status : Extends s (status n f s)
  unfolding status
  under_status =
      let m = put_meta n (quoted (codes "otel.status_code")) (quoted (status_word f.status)) s in
      then s m (put_given n (quoted (codes "otel.status_description")) (lent (described f)) m) (under_put_meta n _ _ s) (under_put_given n _ _ m)

module _ (n : ℕ) (f : Facts) (s : Span) where
  under_by_status : Extends s (by_status n f s)
  unfolding by_status
  under_by_status =
      let m : Span = each (exception n) s.events s in
      either (is_error f.status) s (with_error (pos 1) (message n f m)) (with_error (pos 0) s)
      (under_with_error (pos 1) s (message n f m) (then s m (message n f m) (under_exceptions n s.events s) (under_message n f m)))
      (under_with_error (pos 0) s s (stays s))

  under_last_error : Extends s (last_error n f s)
  unfolding last_error
  under_last_error = either (all_told s) s s (by_status n f s) (stays s) under_by_status

module _ (n : ℕ) (f : Facts) (s : Span) where
  under_end_texts : Extends s (end_texts n f s)
  unfolding end_texts
  under_end_texts =
      let m : Span = trace_state n f s in
      let t : Span = scope n f m in
      then s t (status n f t) (then s m t (under_trace_state n f s) (under_scope n f m)) (under_status n f t)

module _ (n : ℕ) (f : Facts) (s : Span) where
  pub under_at_the_end : Extends s (at_the_end n f s)
  unfolding at_the_end
  under_at_the_end =
      let m : Span = has_exception n s in
      let t : Span = end_texts n f m in
      then s t (last_error n f t) (then s m t (under_has_exception n s) (under_end_texts n f m)) (under_last_error n f t)
