-- The steps that put something under a key of the program's own keep spans alike.
use Rattle.std.proofs.Common.{◌≡◌, ℕ, Bool, true, false, cond, ◌&&◌, List, [], ◌∷◌, ◌++◌, ℤ, Some, None, Option, codes, bytes_eq, is_some, sym, refl, ap, ◌∙◌, subst}
use Rattle.std.specs.List.{AllByRecursion}
use Rattle.values.specs.Atoms.{Datum}
use Rattle.blocks.specs.Facts.{RowFact}
use Rattle.span_args.specs.ReadingOf.{datum_at}
use Rattle.conversion.specs.Spans.{Text, quoted, lent, placed, bytes_of, Span, Event, found}
use Rattle.conversion.specs.Forms.{display_form, plain_form}
use Rattle.conversion.specs.Steps.{put_meta, put_again, put_metric, put_given, each, is_empty, scope_row, is_exception, any_exception, has_exception, exception, exception_texts, put_found, or_other, code_message, other_message, said_message, with_error, all_told}
use Rattle.conversion_law.proofs.Singles.{Four, four, without_four}
use Rattle.conversion_law.proofs.Tables.{In}
use Rattle.conversion_law.proofs.Renaming.{Renaming, tested_keys}
use Rattle.conversion_law.proofs.Kept.{own_meta_keys, own_metrics_keys}
use Rattle.conversion_law.proofs.Fits.{Keys, fits-put_meta, fits-put_again, fits-put_metric, found-put_meta, found-put_again, found-put_metric}
use Rattle.conversion_law.proofs.Alike.{Alike, rest_of}

-- the four texts, and the rest but for the tables and the arena
abbrev joined : Four → Span → Span
joined x s = record (rest_of s) { service = x.0; name = x.1; resource = x.2; type = x.3 }

module _ {n : ℕ} (ren : Renaming) (p q : Keys n) where
  -- a value under a key
  alike-put : (s t : Span) → Alike ren p q s t → (k v w : Text) → In (bytes_of k) p.meta → In (bytes_of k) q.meta → v ≡ w → Alike ren p q (put_meta n k v s) (put_meta n k w t)
  unfolding put_meta
  alike-put s t h k v w i j e =
      record {
        left = fits-put_meta p s h.left k v i;
        right = fits-put_meta q t h.right k w j;
        rest = h.rest;
        meta =
            λ x out. found-put_meta p s h.left k v i x
            ∙ ap (cond (bytes_eq (bytes_of k) x) (Some v)) (h.meta x out)
            ∙ ap (λ z. cond (bytes_eq (bytes_of k) x) (Some z) (found x t.meta)) e
            ∙ sym (found-put_meta q t h.right k w j x);
        metrics = h.metrics;
      }

  alike-again : (s t : Span) → Alike ren p q s t → (k v w : Text) → In (bytes_of k) p.meta → In (bytes_of k) q.meta → v ≡ w → Alike ren p q (put_again n k v s) (put_again n k w t)
  unfolding put_again
  alike-again s t h k v w i j e =
      record {
        left = fits-put_again p s h.left k v i;
        right = fits-put_again q t h.right k w j;
        rest = h.rest;
        meta =
            λ x out. found-put_again p s h.left k v i x
            ∙ ap (cond (bytes_eq (bytes_of k) x) (Some v)) (h.meta x out)
            ∙ ap (λ z. cond (bytes_eq (bytes_of k) x) (Some z) (found x t.meta)) e
            ∙ sym (found-put_again q t h.right k w j x);
        metrics = h.metrics;
      }

  alike-metric : (s t : Span) → Alike ren p q s t → (k : Text) (v : ℕ) → In (bytes_of k) p.metrics → In (bytes_of k) q.metrics → Alike ren p q (put_metric k v s) (put_metric k v t)
  unfolding put_metric
  alike-metric s t h k v i j =
      record {
        left = fits-put_metric p s h.left k v i;
        right = fits-put_metric q t h.right k v j;
        rest = h.rest;
        meta = h.meta;
        metrics =
            λ x out. found-put_metric p s h.left k v i x
            ∙ ap (cond (bytes_eq (bytes_of k) x) (Some v)) (h.metrics x out)
            ∙ sym (found-put_metric q t h.right k v j x);
      }

  -- a test that says the same of both
  pub alike-cond : (b c : Bool) (s t u v : Span) → b ≡ c → Alike ren p q s t → Alike ren p q u v → Alike ren p q (cond b s u) (cond c t v)
  alike-cond b c s t u v e h i = subst (λ z. Alike ren p q (cond b s u) (cond z t v)) e (both b)
    where
      both : (z : Bool) → Alike ren p q (cond z s u) (cond z t v)
      both true = h
      both false = i

  module _ (s t : Span) (h : Alike ren p q s t) where
    pub alike-put_meta : (k : List ℕ) (v w : Text) → In k own_meta_keys → v ≡ w → Alike ren p q (put_meta n (quoted k) v s) (put_meta n (quoted k) w t)
    alike-put_meta k v w i e = alike-put s t h (quoted k) v w (p.own_meta k i) (q.own_meta k i) e

    pub alike-put_given : (k : List ℕ) (v w : Text) → In k own_meta_keys → v ≡ w → Alike ren p q (put_given n (quoted k) v s) (put_given n (quoted k) w t)
    unfolding put_given
    alike-put_given k v w i e = alike-cond (is_empty (bytes_of v)) (is_empty (bytes_of w)) s t (put_meta n (quoted k) v s) (put_meta n (quoted k) w t) (ap (λ z. is_empty (bytes_of z)) e) h (alike-put_meta k v w i e)

    pub alike-put_metric : (k : List ℕ) (v : ℕ) → In k own_metrics_keys → Alike ren p q (put_metric (quoted k) v s) (put_metric (quoted k) v t)
    alike-put_metric k v i = alike-metric s t h (quoted k) v (p.own_metrics k i) (q.own_metrics k i)

    -- that there is something under a key
    pub same-there : (k : List ℕ) → In k tested_keys → is_some (found k s.meta) ≡ is_some (found k t.meta)
    same-there k i = ap is_some (h.meta k (ren.keeps.tests k i))

    -- a field set anew
    pub alike-rest : (f g : Span → Span) → ((z : Span) → (f z).meta ≡ z.meta) → ((z : Span) → (f z).metrics ≡ z.metrics) → ((z : Span) → (g z).meta ≡ z.meta) → ((z : Span) → (g z).metrics ≡ z.metrics) → rest_of (f s) ≡ rest_of (g t) → Alike ren p q (f s) (g t)
    alike-rest f g a b c d e =
        record {
          left = record { meta = rw (a s) h.left.meta; metrics = rw (b s) h.left.metrics };
          right = record { meta = rw (c t) h.right.meta; metrics = rw (d t) h.right.metrics };
          rest = e;
          meta = λ k out. ap (found k) (a s) ∙ h.meta k out ∙ sym (ap (found k) (c t));
          metrics = λ k out. ap (found k) (b s) ∙ h.metrics k out ∙ sym (ap (found k) (d t));
        }

    -- the four texts set anew
    pub alike-four : (f g : Span → Span) → ((z : Span) → without_four (f z) ≡ without_four z) → ((z : Span) → without_four (g z) ≡ without_four z) → four (f s) ≡ four (g t) → Alike ren p q (f s) (g t)
    alike-four f g a b e =
        alike-rest f g (λ z. ap (λ (y : Span). y.meta) (a z)) (λ z. ap (λ (y : Span). y.metrics) (a z)) (λ z. ap (λ (y : Span). y.meta) (b z)) (λ z. ap (λ (y : Span). y.metrics) (b z))
        (ap (joined (four (f s))) (a s) ∙ ap (joined (four (f s))) h.rest ∙ sym (ap (joined (four (f s))) (b t)) ∙ ap (λ x. joined x (without_four (g t))) e)

  -- the scope's attributes are the same rows
  abbrev pub ScopeIn : RowFact → Type 0
  ScopeIn a = In a.key p.meta × In a.key q.meta

  scope-rows : (xs : List RowFact) → AllByRecursion ScopeIn xs → (s t : Span) → Alike ren p q s t → Alike ren p q (each (scope_row n) xs s) (each (scope_row n) xs t)
  unfolding each scope_row
  scope-rows [] a s t h = h
  scope-rows (x ∷ xs) a s t h = scope-rows xs a.1 (scope_row n x s) (scope_row n x t) (alike-put s t h (lent x.key) (display_form (datum_at x)) (display_form (datum_at x)) a.0.0 a.0.1 refl)

  pub scope-rows-alike : (xs ys : List RowFact) → xs ≡ ys → AllByRecursion ScopeIn xs → (s t : Span) → Alike ren p q s t → Alike ren p q (each (scope_row n) xs s) (each (scope_row n) ys t)
  scope-rows-alike xs ys e a s t h = subst (λ l. Alike ren p q (each (scope_row n) xs s) (each (scope_row n) l t)) e (scope-rows xs a s t h)

  -- events
  pub alike-has_exception : (s t : Span) → Alike ren p q s t → Alike ren p q (has_exception n s) (has_exception n t)
  unfolding has_exception
  alike-has_exception s t h =
      let k = codes "_dd.span_events.has_exception" in
      alike-cond (any_exception s.events) (any_exception t.events) (put_meta n (quoted k) (quoted (codes "true")) s) (put_meta n (quoted k) (quoted (codes "true")) t) s t
      (ap (λ (z : Span). any_exception z.events) h.rest) (alike-put_meta s t h k (quoted (codes "true")) (quoted (codes "true")) refl refl) h

  alike-put_found : (k : List ℕ) → In k own_meta_keys → (o : Option (Option Datum)) (s t : Span) → Alike ren p q s t → Alike ren p q (put_found n k o s) (put_found n k o t)
  unfolding put_found
  alike-put_found k i None s t h = h
  alike-put_found k i (Some d) s t h = alike-put_meta s t h k (plain_form d) (plain_form d) i refl

  alike-exception : (e : Event) (s t : Span) → Alike ren p q s t → Alike ren p q (exception n e s) (exception n e t)
  unfolding exception exception_texts
  alike-exception e s t h =
      let m = found (codes "exception.message") e.attributes in
      let y = found (codes "exception.type") e.attributes in
      let z = found (codes "exception.stacktrace") e.attributes in
      let a = alike-put_found (codes "error.message") refl m s t h in
      let b = alike-put_found (codes "error.type") refl y (put_found n (codes "error.message") m s) (put_found n (codes "error.message") m t) a in
      let c = alike-put_found (codes "error.stack") refl z (put_found n (codes "error.type") y (put_found n (codes "error.message") m s)) (put_found n (codes "error.type") y (put_found n (codes "error.message") m t)) b in
      alike-cond (is_exception e) (is_exception e) (exception_texts n e s) (exception_texts n e t) s t refl c h

  exceptions : (es : List Event) (s t : Span) → Alike ren p q s t → Alike ren p q (each (exception n) es s) (each (exception n) es t)
  unfolding each
  exceptions [] s t h = h
  exceptions (e ∷ es) s t h = exceptions es (exception n e s) (exception n e t) (alike-exception e s t h)

  pub alike-exceptions : (s t : Span) → Alike ren p q s t → Alike ren p q (each (exception n) s.events s) (each (exception n) t.events t)
  alike-exceptions s t h = subst (λ l. Alike ren p q (each (exception n) s.events s) (each (exception n) l t)) (ap (λ (z : Span). z.events) h.rest) (exceptions s.events s t h)

  -- the error's message by other attributes
  code_message-alike : (o d : Option Text) (s t : Span) → Alike ren p q s t → Alike ren p q (code_message n o d s) (code_message n o d t)
  unfolding code_message
  code_message-alike None d s t h = h
  code_message-alike (Some c) None s t h = alike-again s t h (quoted (codes "error.message")) c c (p.own_meta (codes "error.message") refl) (q.own_meta (codes "error.message") refl) refl
  code_message-alike (Some c) (Some d) s t h = alike-put_meta s t h (codes "error.message") (placed (bytes_of c ++ (codes " " ++ bytes_of d))) (placed (bytes_of c ++ (codes " " ++ bytes_of d))) refl refl

  pub alike-other_message : (s t : Span) → Alike ren p q s t → Alike ren p q (other_message n s) (other_message n t)
  unfolding other_message
  alike-other_message s t h =
      let c = h.meta (codes "http.response.status_code") (ren.keeps.tests (codes "http.response.status_code") refl) in
      let d = h.meta (codes "http.status_code") (ren.keeps.tests (codes "http.status_code") refl) in
      let e = h.meta (codes "http.status_text") (ren.keeps.tests (codes "http.status_text") refl) in
      let o = or_other (found (codes "http.response.status_code") s.meta) (found (codes "http.status_code") s.meta) in
      let same : o ≡ or_other (found (codes "http.response.status_code") t.meta) (found (codes "http.status_code") t.meta) = λ i. or_other (c i) (d i) in
      subst (λ z. Alike ren p q (other_message n s) (code_message n z (found (codes "http.status_text") t.meta) t)) same
      (subst (λ z. Alike ren p q (other_message n s) (code_message n o z t)) e (code_message-alike o (found (codes "http.status_text") s.meta) s t h))

  pub alike-said_message : (v w : Text) → v ≡ w → (s t : Span) → Alike ren p q s t → Alike ren p q (said_message n v s) (said_message n w t)
  unfolding said_message
  alike-said_message v w e s t h =
      let k = codes "error.message" in
      alike-cond (is_empty (bytes_of v)) (is_empty (bytes_of w)) (other_message n s) (other_message n t) (put_meta n (quoted k) v s) (put_meta n (quoted k) w t) (ap (λ z. is_empty (bytes_of z)) e) (alike-other_message s t h) (alike-put_meta s t h k v w refl e)

  pub alike-with_error : (z : ℤ) (s t : Span) → Alike ren p q s t → Alike ren p q (with_error z s) (with_error z t)
  unfolding with_error
  alike-with_error z s t h = alike-rest s t h (with_error z) (with_error z) (λ y. refl) (λ y. refl) (λ y. refl) (λ y. refl) (ap (with_error z) h.rest)

  pub same-all_told : (s t : Span) → Alike ren p q s t → all_told s ≡ all_told t
  same-all_told s t h =
      let a = same-there s t h (codes "error.message") refl in
      let b = same-there s t h (codes "error.type") refl in
      let c = same-there s t h (codes "error.stack") refl in
      λ i. a i && (b i && c i)
