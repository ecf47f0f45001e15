-- Where a span has no attribute of Datadog's own, none is found under any such key.
use Rattle.std.proofs.Common.{◌≡◌, ℕ, suc, ◌+◌, ◌-◌, ◌<◌, ◌≤◌, ◌==◌, Bool, true, false, cond, ◌&&◌, ◌||◌, List, [], ◌∷◌, codes, Some, None, Option, refl, ap, sym, ◌∙◌, ⊎_elim, true≢false, arith}
use Rattle.std.specs.Str.{bytes_eq}
use Rattle.lent_bytes.specs.Memory.{portion}
use Rattle.std.proofs.lemmas.Bool.{cases_Bool}
use Rattle.std.proofs.lemmas.Slice.Eq.{bytes_eq-Decides}
use Rattle.blocks.specs.Facts.{RowFact, Facts, row_fact, row_facts, facts_from}
use Rattle.blocks.specs.Layout.{rows_in}
use Rattle.readers.specs.DatadogKeys.{begins}
use Rattle.span_args.specs.ReadingOf.{or_row, last_row_of}
use Rattle.conversion.specs.RowSteps.{is_own, any_own}
use Rattle.conversion.specs.Spans.{Span, quoted}
use Rattle.conversion.specs.Forms.{option_datum, string_form}
use Rattle.conversion.specs.Steps.{own_meta, put_given, six_own}

-- those of the rows from i on
abbrev pub OwnFrom : List ℕ → ℕ → Bool
OwnFrom b i = any_own (facts_from b i (rows_in b - i))

pub own-all : (b : List ℕ) → OwnFrom b 0 ≡ any_own (row_facts b)
own-all b = let z : rows_in b - 0 ≡ rows_in b = omega arith in rw z refl

module _ (b : List ℕ) (i : ℕ) where
  own-step : i < rows_in b → OwnFrom b i ≡ (is_own (row_fact b i) || OwnFrom b (i + 1))
  unfolding facts_from any_own
  own-step h =
      let z : rows_in b - i ≡ suc (rows_in b - (i + 1)) = omega arith in
      let g : suc i ≡ i + 1 = omega arith in
      rw (z, ← g) refl

  pub own-so : i < rows_in b → is_own (row_fact b i) ≡ true → OwnFrom b i ≡ true
  own-so h t = own-step h ∙ ap (λ x. x || OwnFrom b (i + 1)) t

  pub own-more : i < rows_in b → is_own (row_fact b i) ≡ false → OwnFrom b i ≡ OwnFrom b (i + 1)
  own-more h f = own-step h ∙ ap (λ x. x || OwnFrom b (i + 1)) f

  pub own-none : rows_in b ≤ i → OwnFrom b i ≡ false
  unfolding facts_from any_own
  own-none h = let z : rows_in b - i ≡ 0 = omega arith in rw z refl

or-left : (x y : Bool) → (x || y) ≡ false → x ≡ false
or-left true y h = h
or-left false y h = refl

or-right : (x y : Bool) → (x || y) ≡ false → y ≡ false
or-right true y h = absurd (true≢false h)
or-right false y h = h

module _ (k : List ℕ) (own : begins (codes "datadog.") k ≡ true) where
  other : (r : RowFact) → is_own r ≡ false → (r.list == 0 && bytes_eq r.key k) ≡ false
  other r h =
      ⊎_elim
      (λ t. ap (λ x. r.list == 0 && x) (t ∙ sym own ∙ ap (begins (codes "datadog.")) (sym ((bytes_eq-Decides r.key k).0 t))) ∙ h)
      (λ f. ap (λ x. r.list == 0 && x) f ∙ never (r.list == 0))
      (cases_Bool (bytes_eq r.key k))
    where
      never : (x : Bool) → (x && false) ≡ false
      never true = refl
      never false = refl

  none_found : (rows : List RowFact) → any_own rows ≡ false → last_row_of 0 k rows ≡ None
  unfolding any_own
  none_found [] h = refl
  none_found (r ∷ rs) h = λ i. or_row (none_found rs (or-right _ _ h) i) (cond (other r (or-left _ _ h) i) (Some r) None)

  none_put : (n : ℕ) (f : Facts) (m : List ℕ) (s : Span) → any_own f.rows ≡ false → own_meta n f k m s ≡ s
  unfolding own_meta put_given
  none_put n f m s h = ap (λ (o : Option RowFact). put_given n (quoted m) (string_form (option_datum o)) s) (none_found f.rows h)

pub six-none : (n : ℕ) (f : Facts) (s : Span) → any_own f.rows ≡ false → six_own n f s ≡ s
unfolding six_own portion
six-none n f s h =
    none_put (codes "datadog.error.stack") refl n f (codes "error.stack") _ h
    ∙ none_put (codes "datadog.error.type") refl n f (codes "error.type") _ h
    ∙ none_put (codes "datadog.error.msg") refl n f (codes "error.message") _ h
    ∙ none_put (codes "datadog.http_status_code") refl n f (codes "http.status_code") _ h
    ∙ none_put (codes "datadog.version") refl n f (codes "version") _ h
    ∙ none_put (codes "datadog.env") refl n f (codes "env") s h
