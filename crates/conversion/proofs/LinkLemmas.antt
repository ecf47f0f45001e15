-- The texts of the links' attributes.
use Rattle.std.proofs.Common.{◌≡◌, ℕ, suc, ◌+◌, ◌-◌, ◌<◌, ◌≤◌, Bool, true, false, cond, ◌&&◌, List, [], ◌∷◌, ◌++◌, refl, ap, sym, ◌∙◌, arith, ◌==◌}
use Rattle.std.specs.List.{flat_map}
use Rattle.std.proofs.lemmas.Bool.{cond-true, cond-false, eqb-true}
use Rattle.std.proofs.lemmas.List.{append_assoc, append-nil, length-append}
use Rattle.blocks.specs.Facts.{RowFact, Facts, facts, row_fact, facts_from}
use Rattle.blocks.specs.Layout.{rows_in}
use Rattle.blocks.specs.Projections.{of_list, up_to, owning, links_of}
use Rattle.span_args.specs.ReadingOf.{datum_at}
use Rattle.conversion.specs.Spans.{Text, Span, arena_for}
use Rattle.conversion.specs.Forms.{string_form}
use Rattle.conversion.specs.LinkTexts.{link_text, or_link, link_texts}
use Rattle.conversion.specs.Steps.{links, link_arena}
use Rattle.conversion.specs.View.{view, Kept, Made, Failed, placing, holding}
use Rattle.conversion.specs.declared.unfinished.UnfinishedSpan.{UnfinishedSpan}
use Rattle.conversion.proofs.Chains.{kept_more}
use Rattle.conversion.proofs.Grows.{size}

abbrev text : RowFact → List ℕ
text a = arena_for (string_form (datum_at a))

abbrev texts : List RowFact → List ℕ
texts rows = flat_map text rows

abbrev owned : List RowFact → List ℕ
owned rows = flat_map link_arena (owning 5 6 rows)

not-both : (l : ℕ) → (l == 5) ≡ true → (l == 6) ≡ false
not-both l h = let e : l ≡ 5 = eqb-true l 5 h in rw e refl

-- one row more, where those below it stand below a link
module _ (r : RowFact) (rs : List RowFact) (here : List ℕ) (ih : here ≡ texts (of_list 6 (up_to 5 rs)) ++ owned rs) where
  below_more : (five six : Bool) → (five ≡ true → six ≡ false)
      → cond six (text r) [] ++ here ≡ texts (cond five [] (cond six (r ∷ of_list 6 (up_to 5 rs)) (of_list 6 (up_to 5 rs)))) ++ flat_map link_arena (cond five (record { head = r; attributes = of_list 6 (up_to 5 rs) } ∷ owning 5 6 rs) (owning 5 6 rs))
  below_more true true h = absurd (let z : true ≡ false = h refl in cc)
  below_more true false h = ih
  below_more false true h = ap (λ l. text r ++ l) ih ∙ sym (append_assoc (text r) _ _)
  below_more false false h = ih

of_list-cond : (r : RowFact) (rs : List RowFact) (five : Bool) → of_list 6 (cond five [] (r ∷ rs)) ≡ cond five [] (cond (r.list == 6) (r ∷ of_list 6 rs) (of_list 6 rs))
unfolding of_list
of_list-cond r rs true = refl
of_list-cond r rs false = refl

below_link : (rows : List RowFact) → link_texts true rows ≡ texts (of_list 6 (up_to 5 rows)) ++ owned rows
unfolding link_texts link_text owning up_to of_list
below_link [] = refl
below_link (r ∷ rs) = below_more r rs (link_texts true rs) (below_link rs) (r.list == 5) (r.list == 6) (not-both r.list) ∙ ap (λ l. texts l ++ flat_map link_arena (cond (r.list == 5) (record { head = r; attributes = of_list 6 (up_to 5 rs) } ∷ owning 5 6 rs) (owning 5 6 rs))) (sym (of_list-cond r (up_to 5 rs) (r.list == 5)))

above_links : (rows : List RowFact) → link_texts false rows ≡ owned rows
unfolding link_texts link_text owning
above_links [] = refl
above_links (r ∷ rs) =
    elim (r.list == 5) as (λ b. link_texts b rs ≡ flat_map link_arena (cond b (record { head = r; attributes = of_list 6 (up_to 5 rs) } ∷ owning 5 6 rs) (owning 5 6 rs))) [
      | true ↦ below_link rs
      | false ↦ above_links rs
    ]

pub links-placed : (f : Facts) (s : Span) → links f s ≡ placing (link_texts false f.rows) s
unfolding links placing
links-placed f s = ap (λ l. record s { arena = s.arena ++ l }) (sym (above_links f.rows))

pub grow-links : (f : Facts) (s : Span) → size s ≤ size (links f s)
unfolding links
grow-links f s = let l = length-append s.arena (flat_map link_arena (links_of f.rows)) in omega arith

pub placing-none : (s : Span) → placing [] s ≡ s
unfolding placing
placing-none s = rw append-nil refl

pub placing-held : (t : Text) (s : Span) → holding t s ≡ placing (arena_for t) s
unfolding placing holding
placing-held t s = refl

placing-more : (t u : List ℕ) (s : Span) → placing (t ++ u) s ≡ placing u (placing t s)
unfolding placing
placing-more t u s = rw append_assoc refl

grow-placing : (t : List ℕ) (s : Span) → size s ≤ size (placing t s)
unfolding placing
grow-placing t s = let l = length-append s.arena t in omega arith

pub link_text-none : (below : Bool) (r : RowFact) → (below && r.list == 6) ≡ false → link_text below r ≡ []
unfolding link_text
link_text-none below r h = cond-false _ _ _ h

pub link_text-some : (below : Bool) (r : RowFact) → (below && r.list == 6) ≡ true → link_text below r ≡ arena_for (string_form (datum_at r))
unfolding link_text
link_text-some below r h = cond-true _ _ _ h

-- the rows from i on
abbrev Coming : Bool → List ℕ → ℕ → ℕ → Span → Span
Coming below b i e s = placing (link_texts below (facts_from b i (e - i))) s

module _ (below : Bool) (b : List ℕ) (i e : ℕ) (s : Span) where
  coming-more : i < e → Coming below b i e s ≡ Coming (or_link below (row_fact b i)) b (i + 1) e (placing (link_text below (row_fact b i)) s)
  unfolding facts_from link_texts
  coming-more h =
      let z : e - i ≡ suc (e - (i + 1)) = omega arith in
      let g : suc i ≡ i + 1 = omega arith in
      rw (z, ← g) (placing-more (link_text below (row_fact b i)) (link_texts (or_link below (row_fact b i)) (facts_from b (suc i) (e - suc i))) s)

  coming-none : e ≤ i → Coming below b i e s ≡ s
  unfolding facts_from link_texts
  coming-none h = let z : e - i ≡ 0 = omega arith in rw z (placing-none s)

  coming-all : Coming below b 0 e s ≡ placing (link_texts below (facts_from b 0 e)) s
  coming-all = let z : e - 0 ≡ e = omega arith in rw z refl

pub record Linked (s m : UnfinishedSpan) (below : Bool) (i : ℕ) : Type 0 where
  pub kept : Kept s m
  pub coming : Coming below s.block.now i (rows_in s.block.now) (view m) ≡ links (facts s.block.now) (view s)

pub linked_all : (s : UnfinishedSpan) → Linked s s false 0
linked_all s = record { kept = record { block = refl; room = refl; rows = refl; meta_name = refl; arena_name = refl }; coming = coming-all false s.block.now 0 (rows_in s.block.now) (view s) ∙ sym (links-placed (facts s.block.now) (view s)) }

module _ (s m e : UnfinishedSpan) (below : Bool) (i : ℕ) (t : Linked s m below i) (h : i < rows_in s.block.now) where
  same : placing (link_text below (row_fact m.block.now i)) (view m) ≡ placing (link_text below (row_fact s.block.now i)) (view m)
  same = λ j. placing (link_text below (row_fact (t.kept.block j) i)) (view m)

  pub linked_more : (next : Bool) → Made m e (placing (link_text below (row_fact m.block.now i)) (view m)) → next ≡ or_link below (row_fact e.block.now i) → Linked s e next (i + 1)
  linked_more next q o =
      let k = kept_more s m e t.kept q.kept in
      let n : next ≡ or_link below (row_fact s.block.now i) = o ∙ ap (λ x. or_link below (row_fact x i)) k.block in
      record {
        kept = k;
        coming = (λ j. Coming (n j) s.block.now (i + 1) (rows_in s.block.now) ((q.is ∙ same) j)) ∙ sym (coming-more below s.block.now i (rows_in s.block.now) (view m) h) ∙ t.coming;
      }

  pub linked_stop : Failed m e (placing (link_text below (row_fact m.block.now i)) (view m)) → Failed s e (links (facts s.block.now) (view s))
  linked_stop q =
      let x = placing (link_text below (row_fact s.block.now i)) (view m) in
      let whole : size (Coming (or_link below (row_fact s.block.now i)) s.block.now (i + 1) (rows_in s.block.now) x) ≡ size (links (facts s.block.now) (view s)) = ap size (sym (coming-more below s.block.now i (rows_in s.block.now) (view m) h) ∙ t.coming) in
      let here : size (placing (link_text below (row_fact m.block.now i)) (view m)) ≡ size x = ap size same in
      let grown = grow-placing (link_texts (or_link below (row_fact s.block.now i)) (facts_from s.block.now (i + 1) (rows_in s.block.now - (i + 1)))) x in
      let room = t.kept.room in
      let over = q.over in
      record { kept = kept_more s m e t.kept q.kept; over = omega arith }

pub linked_end : (s m : UnfinishedSpan) (below : Bool) (i : ℕ) → rows_in s.block.now ≤ i → Linked s m below i → Made s m (links (facts s.block.now) (view s))
linked_end s m below i h t = record { kept = t.kept; is = sym (coming-none below s.block.now i (rows_in s.block.now) (view m) h) ∙ t.coming }
