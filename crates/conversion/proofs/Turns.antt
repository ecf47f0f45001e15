-- Rows, one after another.
use Rattle.std.proofs.Common.{◌≡◌, ℕ, suc, ◌+◌, ◌-◌, ◌<◌, ◌≤◌, Bool, true, false, cond, List, [], ◌∷◌, length, codes, Some, None, Option, refl, ap, sym, ◌∙◌, arith, ◌==◌}
use Rattle.std.proofs.lemmas.Bool.{cond-true, cond-false, cond_both}
use Rattle.blocks.specs.Facts.{RowFact, row_fact, row_facts, facts_from}
use Rattle.blocks.specs.Layout.{rows_in}
use Rattle.blocks.specs.Lists.{plain_number}
use Rattle.blocks.specs.Projections.{of_list}
use Rattle.blocks.specs.declared.lists.PlainList.{PlainList}
use Rattle.blocks.specs.declared.lists.PlainList.TheVariants.{Span as OfSpan, Resource, Scope}
use Rattle.readers.specs.DatadogKeys.{begins, datadog_key}
use Rattle.span_args.specs.ReadingOf.{datum_at}
use Rattle.conversion.specs.Spans.{Span, lent}
use Rattle.conversion.specs.Forms.{key_form, string_form, metric_form, display_form}
use Rattle.conversion.specs.Steps.{each, put_meta, put_text, put_number, span_row, resource_row, scope_row, by_metric, row_key}
use Rattle.conversion.specs.RowSteps.{row_step, row_turn}
use Rattle.conversion.specs.View.{view, Kept, Made, Failed}
use Rattle.conversion.specs.declared.unfinished.UnfinishedSpan.{UnfinishedSpan}
use Rattle.conversion.proofs.Chains.{kept_more}
use Rattle.conversion.proofs.Grows.{size, grow-put_meta}
use Rattle.conversion.proofs.AttributeLemmas.{grow-put_text, grow-put_number}

module _ (n : ℕ) (a : RowFact) (s : Span) where
  pub span-own : begins (codes "datadog.") a.key ≡ true → span_row n a s ≡ s
  unfolding span_row
  span-own h = cond-true _ _ _ h

  pub span-text : begins (codes "datadog.") a.key ≡ false → metric_form (datum_at a) ≡ None → span_row n a s ≡ resource_row n a s
  unfolding span_row resource_row
  span-text h g = cond-false _ _ _ h ∙ ap (λ o. by_metric n a o s) g

  pub span-number : (p : ℕ) → begins (codes "datadog.") a.key ≡ false → metric_form (datum_at a) ≡ Some p → span_row n a s ≡ put_number (row_key a) p s
  unfolding span_row
  span-number p h g = cond-false _ _ _ h ∙ ap (λ o. by_metric n a o s) g

  pub resource-put : resource_row n a s ≡ put_text n (key_form (datadog_key a.key)) (string_form (datum_at a)) s
  unfolding resource_row
  resource-put = refl

  pub scope-put : scope_row n a s ≡ put_meta n (lent a.key) (display_form (datum_at a)) s
  unfolding scope_row
  scope-put = refl

  grow_metric : (o : Option ℕ) → size s ≤ size (by_metric n a o s)
  grow_metric None = grow-put_text n (row_key a) (string_form (datum_at a)) s
  grow_metric (Some p) = grow-put_number (row_key a) p s

  pub grow-row_step : (p : PlainList) → size s ≤ size (row_step n p a s)
  unfolding span_row resource_row scope_row
  grow-row_step OfSpan = cond_both (begins (codes "datadog.") a.key) s (by_metric n a (metric_form (datum_at a)) s) (λ (e : Span). size s ≤ size e) (λ _. omega arith) (λ _. grow_metric (metric_form (datum_at a)))
  grow-row_step Resource = grow-put_text n (row_key a) (string_form (datum_at a)) s
  grow-row_step Scope = grow-put_meta n (lent a.key) (display_form (datum_at a)) s

module _ (n : ℕ) (p : PlainList) (b : List ℕ) (i : ℕ) (s : Span) where
  pub turn-in : ((row_fact b i).list == plain_number p) ≡ true → row_turn n p b i s ≡ row_step n p (row_fact b i) s
  unfolding row_turn
  turn-in h = cond-true _ _ _ h

  pub turn-out : ((row_fact b i).list == plain_number p) ≡ false → row_turn n p b i s ≡ s
  unfolding row_turn
  turn-out h = cond-false _ _ _ h

-- the rows from i on
abbrev pub Coming : ℕ → PlainList → List ℕ → ℕ → ℕ → Span → Span
Coming n p b i e s = each (row_step n p) (of_list (plain_number p) (facts_from b i (e - i))) s

grow-each : (n : ℕ) (p : PlainList) (rows : List RowFact) (s : Span) → size s ≤ size (each (row_step n p) rows s)
unfolding each
grow-each n p [] s = omega arith
grow-each n p (r ∷ rs) s = let a = grow-row_step n r s p in let b = grow-each n p rs (row_step n p r s) in omega arith

pub grow-rows : (n : ℕ) (p : PlainList) (rows : List RowFact) (s : Span) → size s ≤ size (each (row_step n p) rows s)
grow-rows n p rows s = grow-each n p rows s

module _ (n : ℕ) (p : PlainList) (b : List ℕ) (i e : ℕ) (s : Span) where
  each_cond : (t : Bool) (r : RowFact) (rs : List RowFact) → each (row_step n p) (cond t (r ∷ rs) rs) s ≡ each (row_step n p) rs (cond t (row_step n p r s) s)
  unfolding each
  each_cond true r rs = refl
  each_cond false r rs = refl

  pub turn-more : i < e → Coming n p b i e s ≡ Coming n p b (i + 1) e (row_turn n p b i s)
  unfolding facts_from of_list row_turn
  turn-more h =
      let z : e - i ≡ suc (e - (i + 1)) = omega arith in
      let g : suc i ≡ i + 1 = omega arith in
      rw (z, ← g) (each_cond ((row_fact b i).list == plain_number p) (row_fact b i) (of_list (plain_number p) (facts_from b (suc i) (e - suc i))))

  pub turn-none : e ≤ i → Coming n p b i e s ≡ s
  unfolding facts_from of_list each
  turn-none h = let z : e - i ≡ 0 = omega arith in rw z refl

  pub turn-all : Coming n p b 0 e s ≡ each (row_step n p) (of_list (plain_number p) (facts_from b 0 e)) s
  turn-all = let z : e - 0 ≡ e = omega arith in rw z refl

  pub grow-coming : size (row_turn n p b i s) ≤ size (Coming n p b (i + 1) e (row_turn n p b i s))
  grow-coming = grow-each n p _ (row_turn n p b i s)

-- what is known before the row i: s began, and m is there
pub record Turned (s m : UnfinishedSpan) (p : PlainList) (i : ℕ) : Type 0 where
  pub kept : Kept s m
  pub coming : Coming (length s.meta.now) p s.block.now i (rows_in s.block.now) (view m) ≡ each (row_step (length s.meta.now) p) (of_list (plain_number p) (row_facts s.block.now)) (view s)

pub turned_all : (s : UnfinishedSpan) (p : PlainList) → Turned s s p 0
turned_all s p = record { kept = record { block = refl; room = refl; rows = refl; meta_name = refl; arena_name = refl }; coming = turn-all (length s.meta.now) p s.block.now 0 (rows_in s.block.now) (view s) }

module _ (s m e : UnfinishedSpan) (p : PlainList) (i : ℕ) (t : Turned s m p i) where
  -- the same turn, by the block and the table of s
  same_turn : row_turn (length m.meta.now) p m.block.now i (view m) ≡ row_turn (length s.meta.now) p s.block.now i (view m)
  same_turn = λ j. row_turn (t.kept.rows j) p (t.kept.block j) i (view m)

  pub turned_more : i < rows_in s.block.now → Made m e (row_turn (length m.meta.now) p m.block.now i (view m)) → Turned s e p (i + 1)
  turned_more h q =
      record {
        kept = kept_more s m e t.kept q.kept;
        coming = ap (λ x. Coming (length s.meta.now) p s.block.now (i + 1) (rows_in s.block.now) x) (q.is ∙ same_turn) ∙ sym (turn-more (length s.meta.now) p s.block.now i (rows_in s.block.now) (view m) h) ∙ t.coming;
      }

  pub turned_stop : i < rows_in s.block.now → Failed m e (row_turn (length m.meta.now) p m.block.now i (view m)) → Failed s e (each (row_step (length s.meta.now) p) (of_list (plain_number p) (row_facts s.block.now)) (view s))
  turned_stop h q =
      let whole : size (Coming (length s.meta.now) p s.block.now (i + 1) (rows_in s.block.now) (row_turn (length s.meta.now) p s.block.now i (view m))) ≡ size (each (row_step (length s.meta.now) p) (of_list (plain_number p) (row_facts s.block.now)) (view s)) = ap size (sym (turn-more (length s.meta.now) p s.block.now i (rows_in s.block.now) (view m) h) ∙ t.coming) in
      let here : size (row_turn (length m.meta.now) p m.block.now i (view m)) ≡ size (row_turn (length s.meta.now) p s.block.now i (view m)) = ap size same_turn in
      let grown = grow-coming (length s.meta.now) p s.block.now i (rows_in s.block.now) (view m) in
      let room = t.kept.room in
      let over = q.over in
      record { kept = kept_more s m e t.kept q.kept; over = omega arith }

pub turned_end : (s m : UnfinishedSpan) (p : PlainList) (i : ℕ) → rows_in s.block.now ≤ i → Turned s m p i → Made s m (each (row_step (length s.meta.now) p) (of_list (plain_number p) (row_facts s.block.now)) (view s))
turned_end s m p i h t = record { kept = t.kept; is = sym (turn-none (length s.meta.now) p s.block.now i (rows_in s.block.now) (view m) h) ∙ t.coming }
