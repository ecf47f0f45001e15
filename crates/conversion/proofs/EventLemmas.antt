-- Events, row by row.
use Rattle.std.proofs.Common.{◌≡◌, ℕ, suc, ◌+◌, ◌-◌, ◌<◌, ◌≤◌, Bool, true, false, cond, ◌&&◌, ◌||◌, List, [], ◌∷◌, map, length, codes, Some, None, Option, refl, ap, sym, ◌∙◌, ⊎_elim, arith, ◌==◌}
use Rattle.std.specs.Option.{option_map}
use Rattle.std.specs.Str.{bytes_eq}
use Rattle.std.proofs.lemmas.Bool.{cases_Bool, cond-true, cond-false, cond_both, both_ways}
use Rattle.std.proofs.lemmas.Slice.Eq.{bytes_eq-Decides}
use Rattle.keyed.specs.Keyed.{insert, inserts}
use Rattle.values.specs.Atoms.{Datum}
use Rattle.blocks.specs.Facts.{RowFact, row_fact, facts_from}
use Rattle.blocks.specs.Layout.{rows_in}
use Rattle.blocks.specs.Projections.{Owned, of_list, up_to, owning, events_of}
use Rattle.span_args.specs.ReadingOf.{datum_at, or_row, last_row_of}
use Rattle.conversion.specs.Spans.{Text, Event, Span, quoted, lent, bytes_of, same_text, found}
use Rattle.conversion.specs.Forms.{plain_form}
use Rattle.conversion.specs.Events.{exception_row, rows_from, entries_from, event_at, all_events, exception_turn}
use Rattle.conversion.specs.Steps.{each, put_meta, event_entry, event_of, is_exception, any_exception, has_exception, put_found, exception, exception_texts}
use Rattle.conversion.specs.View.{view, Kept, Made, Failed}
use Rattle.conversion.specs.declared.unfinished.UnfinishedSpan.{UnfinishedSpan}
use Rattle.conversion.proofs.Chains.{kept_more}
use Rattle.conversion.proofs.Grows.{size, grow-put_meta}
use Rattle.conversion.proofs.OwnLemmas.{le_then}

-- an exception among the rows from i on
abbrev pub AnyFrom : List ℕ → ℕ → Bool
AnyFrom b i = any_exception (map event_of (events_of (rows_from b i)))

module _ (b : List ℕ) (i : ℕ) where
  any_cond : (t : Bool) (o : Owned) (os : List Owned) → any_exception (map event_of (cond t (o ∷ os) os)) ≡ ((t && is_exception (event_of o)) || any_exception (map event_of os))
  any_cond true o os = refl
  any_cond false o os = refl

  any-step : i < rows_in b → AnyFrom b i ≡ (exception_row (row_fact b i) || AnyFrom b (i + 1))
  unfolding facts_from owning
  any-step h =
      let z : rows_in b - i ≡ suc (rows_in b - (i + 1)) = omega arith in
      let g : suc i ≡ i + 1 = omega arith in
      rw (z, ← g) (any_cond ((row_fact b i).list == 3) _ (owning 3 4 (facts_from b (suc i) (rows_in b - suc i))))

  pub any-so : i < rows_in b → exception_row (row_fact b i) ≡ true → AnyFrom b i ≡ true
  any-so h e = any-step h ∙ ap (λ t. t || AnyFrom b (i + 1)) e

  pub any-more : i < rows_in b → exception_row (row_fact b i) ≡ false → AnyFrom b i ≡ AnyFrom b (i + 1)
  any-more h e = any-step h ∙ ap (λ t. t || AnyFrom b (i + 1)) e

  pub any-none : rows_in b ≤ i → AnyFrom b i ≡ false
  unfolding facts_from owning
  any-none h = let z : rows_in b - i ≡ 0 = omega arith in rw z refl

pub any-all : (b : List ℕ) → AnyFrom b 0 ≡ any_exception (all_events b)
any-all b = let z : rows_in b - 0 ≡ rows_in b = omega arith in rw z refl

module _ (n : ℕ) (s : Span) where
  pub exception-there : any_exception s.events ≡ true → has_exception n s ≡ put_meta n (quoted (codes "_dd.span_events.has_exception")) (quoted (codes "true")) s
  unfolding has_exception
  exception-there h = cond-true _ _ _ h

  pub exception-none : any_exception s.events ≡ false → has_exception n s ≡ s
  unfolding has_exception
  exception-none h = cond-false _ _ _ h

  pub grow-has_exception : size s ≤ size (has_exception n s)
  unfolding has_exception
  grow-has_exception =
      let e : Span = put_meta n (quoted (codes "_dd.span_events.has_exception")) (quoted (codes "true")) s in
      cond_both (any_exception s.events) e s (λ (x : Span). size s ≤ size x) (λ _. grow-put_meta n _ _ s) (λ _. omega arith)

-- the last attribute with the key k from i on, and what is above
abbrev pub LastUnder : List ℕ → List ℕ → ℕ → Option RowFact → Option RowFact
LastUnder b k i o = or_row (last_row_of 4 k (up_to 3 (rows_from b i))) o

or_none : (o : Option RowFact) → or_row o None ≡ o
or_none None = refl
or_none (Some r) = refl

or_row_assoc : (a b c : Option RowFact) → or_row (or_row a b) c ≡ or_row a (or_row b c)
or_row_assoc None b c = refl
or_row_assoc (Some r) b c = refl

pub under-none : (b k : List ℕ) (from : ℕ) → LastUnder b k from None ≡ last_row_of 4 k (up_to 3 (rows_from b from))
under-none b k from = or_none _

module _ (b k : List ℕ) (i : ℕ) (o : Option RowFact) where
  pub under-event : i < rows_in b → ((row_fact b i).list == 3) ≡ true → LastUnder b k i o ≡ o
  unfolding facts_from up_to
  under-event h e = let z : rows_in b - i ≡ suc (rows_in b - (i + 1)) = omega arith in rw (z, e) refl

  step : i < rows_in b → ((row_fact b i).list == 3) ≡ false → LastUnder b k i o ≡ LastUnder b k (i + 1) (or_row (cond ((row_fact b i).list == 4 && bytes_eq (row_fact b i).key k) (Some (row_fact b i)) None) o)
  unfolding facts_from up_to
  step h e =
      let z : rows_in b - i ≡ suc (rows_in b - (i + 1)) = omega arith in
      let g : suc i ≡ i + 1 = omega arith in
      rw (z, ← g, e) (or_row_assoc (last_row_of 4 k (up_to 3 (facts_from b (suc i) (rows_in b - suc i)))) _ o)

  pub under-hit : i < rows_in b → ((row_fact b i).list == 3) ≡ false → ((row_fact b i).list == 4) ≡ true → bytes_eq (row_fact b i).key k ≡ true → LastUnder b k i o ≡ LastUnder b k (i + 1) (Some (row_fact b i))
  under-hit h n p q = let e : ((row_fact b i).list == 4 && bytes_eq (row_fact b i).key k) ≡ true = rw (p, q) refl in step h n ∙ ap (λ t. LastUnder b k (i + 1) (or_row (cond t (Some (row_fact b i)) None) o)) e

  pub under-miss_list : i < rows_in b → ((row_fact b i).list == 3) ≡ false → ((row_fact b i).list == 4) ≡ false → LastUnder b k i o ≡ LastUnder b k (i + 1) o
  under-miss_list h n p = let e : ((row_fact b i).list == 4 && bytes_eq (row_fact b i).key k) ≡ false = rw p refl in step h n ∙ ap (λ t. LastUnder b k (i + 1) (or_row (cond t (Some (row_fact b i)) None) o)) e

  pub under-miss_key : i < rows_in b → ((row_fact b i).list == 3) ≡ false → ((row_fact b i).list == 4) ≡ true → bytes_eq (row_fact b i).key k ≡ false → LastUnder b k i o ≡ LastUnder b k (i + 1) o
  under-miss_key h n p q = let e : ((row_fact b i).list == 4 && bytes_eq (row_fact b i).key k) ≡ false = rw (p, q) refl in step h n ∙ ap (λ t. LastUnder b k (i + 1) (or_row (cond t (Some (row_fact b i)) None) o)) e

  pub under-end : rows_in b ≤ i → LastUnder b k i o ≡ o
  unfolding facts_from up_to
  under-end h = let z : rows_in b - i ≡ 0 = omega arith in rw z refl

-- the entry under a key is that of the last row with it
abbrev or_else : {V : Type 0} → Option V → Option V → Option V
or_else None b = b
or_else (Some a) b = Some a

hides : {V : Type 0} (x y : Bool) (u w q : V) → y ≡ x → cond x u q ≡ cond x u (cond y w q)
hides true y u w q e = refl
hides false y u w q e = sym (cond-false _ _ _ e)

passes : {V : Type 0} (x y : Bool) (u w q : V) → (x ≡ true → y ≡ false) → cond x u (cond y w q) ≡ cond y w (cond x u q)
passes true y u w q e = sym (cond-false _ _ _ (e refl))
passes false true u w q e = refl
passes false false u w q e = refl

module _ {V : Type 0} (k : List ℕ) (t : Text) (v : V) where
  apart : (p : Text) → same_text p t ≡ false → bytes_eq (bytes_of p) k ≡ true → bytes_eq (bytes_of t) k ≡ false
  apart p e a =
      ⊎_elim
      (λ c. absurd (both_ways (bytes_eq (bytes_of p) (bytes_of t)) e ((bytes_eq-Decides (bytes_of p) (bytes_of t)).1 ((bytes_eq-Decides (bytes_of p) k).0 a ∙ sym ((bytes_eq-Decides (bytes_of t) k).0 c)))))
      (λ c. c)
      (cases_Bool (bytes_eq (bytes_of t) k))

  found-insert : (m : List (Text × V)) → found k (insert same_text m t v) ≡ cond (bytes_eq (bytes_of t) k) (Some v) (found k m)
  unfolding found
  found-insert [] = refl
  found-insert (p ∷ m) =
      ⊎_elim
      (λ e.
      let i : bytes_of p.0 ≡ bytes_of t = (bytes_eq-Decides (bytes_of p.0) (bytes_of t)).0 e in
      ap (found k) (cond-true _ _ _ e) ∙ hides (bytes_eq (bytes_of t) k) (bytes_eq (bytes_of p.0) k) (Some v) (Some p.1) (found k m) (ap (λ x. bytes_eq x k) i))
      (λ e.
      ap (found k) (cond-false _ _ _ e)
      ∙ ap (λ q. cond (bytes_eq (bytes_of p.0) k) (Some p.1) q) (found-insert m)
      ∙ passes (bytes_eq (bytes_of p.0) k) (bytes_eq (bytes_of t) k) (Some p.1) (Some v) (found k m) (apart p.0 e))
      (cases_Bool (bytes_eq (bytes_of p.0) (bytes_of t)))

found-more : (a : Option RowFact) (r : RowFact) (x : Bool) (q : Option (Option Datum)) → or_else (option_map datum_at a) (cond x (Some (datum_at r)) q) ≡ or_else (option_map datum_at (or_row a (cond x (Some r) None))) q
found-more None r true q = refl
found-more None r false q = refl
found-more (Some y) r x q = refl

found-inserts : (k : List ℕ) (rows : List RowFact) (m : List (Text × Option Datum)) → found k (inserts same_text m (map event_entry (of_list 4 rows))) ≡ or_else (option_map datum_at (last_row_of 4 k rows)) (found k m)
unfolding of_list
found-inserts k [] m = refl
found-inserts k (r ∷ rs) m =
    ⊎_elim
    (λ e. rw e (found-inserts k rs (insert same_text m (lent r.key) (datum_at r)) ∙ ap (λ q. or_else (option_map datum_at (last_row_of 4 k rs)) q) (found-insert k (lent r.key) (datum_at r) m) ∙ found-more (last_row_of 4 k rs) r (bytes_eq r.key k) (found k m)))
    (λ e. rw e (found-inserts k rs m ∙ ap (λ a. or_else (option_map datum_at a) (found k m)) (sym (or_none (last_row_of 4 k rs)))))
    (cases_Bool (r.list == 4))

or_else-none : {V : Type 0} (o : Option V) → or_else o None ≡ o
or_else-none None = refl
or_else-none (Some v) = refl

pub found-last : (k : List ℕ) (b : List ℕ) (from : ℕ) → found k (entries_from b from) ≡ option_map datum_at (last_row_of 4 k (up_to 3 (rows_from b from)))
unfolding found
found-last k b from = found-inserts k (up_to 3 (rows_from b from)) [] ∙ or_else-none _

pub option_map-then : {X Y Z : Type 0} (f : X → Y) (g : Y → Z) (o : Option X) → option_map (λ x. g (f x)) o ≡ option_map g (option_map f o)
option_map-then f g None = refl
option_map-then f g (Some x) = refl

module _ (n : ℕ) (k : List ℕ) (s : Span) where
  pub found-put : (d : Option Datum) → put_found n k (Some d) s ≡ put_meta n (quoted k) (plain_form d) s
  unfolding put_found
  found-put d = refl

  pub found-nothing : put_found n k None s ≡ s
  unfolding put_found
  found-nothing = refl

  pub grow-put_found : (o : Option (Option Datum)) → size s ≤ size (put_found n k o s)
  unfolding put_found
  grow-put_found None = omega arith
  grow-put_found (Some d) = grow-put_meta n (quoted k) (plain_form d) s

module _ (n : ℕ) (e : Event) (s : Span) where
  pub after_exception_texts_0 : size s ≤ size (put_found n (codes "error.stack") (found (codes "exception.stacktrace") e.attributes) (put_found n (codes "error.type") (found (codes "exception.type") e.attributes) s))
  after_exception_texts_0 = le_then _ _ _ (grow-put_found n (codes "error.type") s _) (grow-put_found n (codes "error.stack") _ _)

  pub after_exception_texts_1 : size s ≤ size (put_found n (codes "error.stack") (found (codes "exception.stacktrace") e.attributes) s)
  after_exception_texts_1 = grow-put_found n (codes "error.stack") s _

  pub grow-exception_texts : size s ≤ size (exception_texts n e s)
  unfolding exception_texts
  grow-exception_texts = le_then _ _ _ (grow-put_found n (codes "error.message") s _) (le_then _ _ _ (grow-put_found n (codes "error.type") _ _) (grow-put_found n (codes "error.stack") _ _))

  pub grow-exception : size s ≤ size (exception n e s)
  unfolding exception
  grow-exception = cond_both (is_exception e) (exception_texts n e s) s (λ (x : Span). size s ≤ size x) (λ _. grow-exception_texts) (λ _. omega arith)

pub grow-exceptions : (n : ℕ) (es : List Event) (s : Span) → size s ≤ size (each (exception n) es s)
unfolding each
grow-exceptions n [] s = omega arith
grow-exceptions n (e ∷ es) s = le_then _ _ _ (grow-exception n e s) (grow-exceptions n es _)

module _ (n : ℕ) (b : List ℕ) (i : ℕ) (s : Span) where
  pub turn-exception : exception_row (row_fact b i) ≡ true → exception_turn n b i s ≡ exception_texts n (event_at b i) s
  unfolding exception_turn
  turn-exception h = cond-true _ _ _ h

  pub turn-other : exception_row (row_fact b i) ≡ false → exception_turn n b i s ≡ s
  unfolding exception_turn
  turn-other h = cond-false _ _ _ h

-- the events from i on
abbrev Coming : ℕ → List ℕ → ℕ → Span → Span
Coming n b i s = each (exception n) (map event_of (events_of (rows_from b i))) s

module _ (n : ℕ) (b : List ℕ) (i : ℕ) (s : Span) where
  each_cond : (t : Bool) (o : Owned) (os : List Owned) → each (exception n) (map event_of (cond t (o ∷ os) os)) s ≡ each (exception n) (map event_of os) (cond (t && is_exception (event_of o)) (exception_texts n (event_of o) s) s)
  unfolding each exception
  each_cond true o os = refl
  each_cond false o os = refl

  coming-more : i < rows_in b → Coming n b i s ≡ Coming n b (i + 1) (exception_turn n b i s)
  unfolding facts_from owning exception_turn
  coming-more h =
      let z : rows_in b - i ≡ suc (rows_in b - (i + 1)) = omega arith in
      let g : suc i ≡ i + 1 = omega arith in
      rw (z, ← g) (each_cond ((row_fact b i).list == 3) _ (owning 3 4 (facts_from b (suc i) (rows_in b - suc i))))

  coming-none : rows_in b ≤ i → Coming n b i s ≡ s
  unfolding facts_from owning each
  coming-none h = let z : rows_in b - i ≡ 0 = omega arith in rw z refl

  coming-all : Coming n b 0 s ≡ each (exception n) (all_events b) s
  coming-all = let z : rows_in b - 0 ≡ rows_in b = omega arith in rw z refl

-- what is known before the row i: s began, and m is there
pub record Raised (s m : UnfinishedSpan) (i : ℕ) : Type 0 where
  pub kept : Kept s m
  pub coming : Coming (length s.meta.now) s.block.now i (view m) ≡ each (exception (length s.meta.now)) (all_events s.block.now) (view s)

pub raised_all : (s : UnfinishedSpan) → Raised s s 0
raised_all s = record { kept = record { block = refl; room = refl; rows = refl; meta_name = refl; arena_name = refl }; coming = coming-all (length s.meta.now) s.block.now 0 (view s) }

module _ (s m e : UnfinishedSpan) (i : ℕ) (t : Raised s m i) (h : i < rows_in s.block.now) where
  same : exception_turn (length m.meta.now) m.block.now i (view m) ≡ exception_turn (length s.meta.now) s.block.now i (view m)
  same = λ j. exception_turn (t.kept.rows j) (t.kept.block j) i (view m)

  pub raised_more : Made m e (exception_turn (length m.meta.now) m.block.now i (view m)) → Raised s e (i + 1)
  raised_more q =
      record {
        kept = kept_more s m e t.kept q.kept;
        coming = ap (λ x. Coming (length s.meta.now) s.block.now (i + 1) x) (q.is ∙ same) ∙ sym (coming-more (length s.meta.now) s.block.now i (view m) h) ∙ t.coming;
      }

  pub raised_stop : Failed m e (exception_turn (length m.meta.now) m.block.now i (view m)) → Failed s e (each (exception (length s.meta.now)) (all_events s.block.now) (view s))
  raised_stop q =
      let x : Span = exception_turn (length s.meta.now) s.block.now i (view m) in
      let whole : size (Coming (length s.meta.now) s.block.now (i + 1) x) ≡ size (each (exception (length s.meta.now)) (all_events s.block.now) (view s)) = ap size (sym (coming-more (length s.meta.now) s.block.now i (view m) h) ∙ t.coming) in
      let here : size (exception_turn (length m.meta.now) m.block.now i (view m)) ≡ size x = ap size same in
      let grown = grow-exceptions (length s.meta.now) (map event_of (events_of (rows_from s.block.now (i + 1)))) x in
      let room = t.kept.room in
      let over = q.over in
      record { kept = kept_more s m e t.kept q.kept; over = omega arith }

pub raised_end : (s m : UnfinishedSpan) (i : ℕ) → rows_in s.block.now ≤ i → Raised s m i → Made s m (each (exception (length s.meta.now)) (all_events s.block.now) (view s))
raised_end s m i h t = record { kept = t.kept; is = sym (coming-none (length s.meta.now) s.block.now i (view m) h) ∙ t.coming }
