-- Blocks in the making, and what a step that changes at most one row leaves of them.
use Rattle.std.proofs.Common.{◌≡◌, ℕ, zero, suc, ◌+◌, ◌%◌, ◌<◌, ◌≤◌, cond, eqb, List, length, get_or, IsUtf8, sym, refl, ap, ◌∙◌, subst, ⊎_elim, arith}
use Rattle.std.proofs.lemmas.Bool.{cases_eq}
use Rattle.lent_bytes.specs.Memory.{Bytes, portion}
use Rattle.blocks.specs.Layout.{version_in, rows_in, offset_in, capacity_in, kind_in, status_in, used_in, text_in, place_in, length_in, row_place, Row, row_at}
use Rattle.blocks.specs.Faults.{list_in}
use Rattle.blocks.specs.Faults.{counted, above, key_in}
use Rattle.blocks.specs.Facts.{RowFact, fact_at, row_fact}
use Rattle.blocks.specs.Lawful.{TextLawful, ValueLawful, RowLawful}
use Rattle.block_laws.proofs.Kept.{Kept, byte_kept, u16_kept, u32_kept, i64_kept}

-- where the place and length of a header text stand, and how long it may be
abbrev pub Head : ℕ → Type 0
Head h = (80 ≤ h) × ((h ≤ 112) × (h % 8 ≡ 0))

pub head_80 : Head 80
head_80 = (omega arith, (omega arith, omega arith))

pub head_88 : Head 88
head_88 = (omega arith, (omega arith, omega arith))

pub head_96 : Head 96
head_96 = (omega arith, (omega arith, omega arith))

pub head_104 : Head 104
head_104 = (omega arith, (omega arith, omega arith))

pub head_112 : Head 112
head_112 = (omega arith, (omega arith, omega arith))

abbrev pub longest : ℕ → ℕ
longest h = cond (eqb h 88) 512 (cond (eqb h 112) 1024 255)

-- a lawful block, but for the state
pub record Sound (m : List ℕ) : Type 0 where
  pub bytes : Bytes m
  pub small : length m ≤ 65536
  pub version : version_in m ≡ 1
  pub first_kind : 1 ≤ kind_in m
  pub last_kind : kind_in m ≤ 5
  pub status : status_in m ≤ 2
  pub zero_77 : get_or m 77 0 ≡ 0
  pub zero_78 : get_or m 78 0 ≡ 0
  pub zero_79 : get_or m 79 0 ≡ 0
  pub capacity : capacity_in m ≤ 1024
  pub rows : rows_in m ≤ capacity_in m
  pub offset : offset_in m ≡ row_place (capacity_in m)
  pub used : offset_in m + used_in m ≤ length m
  pub heads : (h : ℕ) → Head h → TextLawful m (place_in m h) (length_in m h) (longest h)
  pub each : (i : ℕ) → i < rows_in m → RowLawful m i (list_in m i) (row_at m (row_place i))

-- m' has n rows and u bytes of text; only the row j is another, or new
pub record Step (m m' : List ℕ) (j n u : ℕ) : Type 0 where
  pub size : length m' ≡ length m
  pub version : Kept m m' 0 2
  pub fixed : Kept m m' 4 11
  pub zeros : Kept m m' 77 80
  pub count : rows_in m' ≡ n
  pub used : used_in m' ≡ u
  pub grows : used_in m ≤ u
  pub most : n ≤ capacity_in m
  pub fit : offset_in m + u ≤ length m
  pub old : (i : ℕ) → i < n → (i ≡ j → ⊥) → i < rows_in m
  pub others : (i : ℕ) → i < rows_in m → (i ≡ j → ⊥) → Kept m m' (row_place i) (row_place i + 24)
  pub texts : Kept m m' (offset_in m) (offset_in m + used_in m)

-- a row's value lies within the text used
pub value-inside : (m : List ℕ) (i l : ℕ) (r : Row) → RowLawful m i l r → r.value_place + r.value_length ≤ used_in m
value-inside m i l r w =
    ⊎_elim
    (λ (e : l ≡ 3). let x = w.event e in omega (arith, x.length, x.place))
    (λ (n : l ≡ 3 → ⊥). ⊎_elim (λ (e : l ≡ 5). (w.link e).inside) (λ (o : l ≡ 5 → ⊥). (w.attribute n o).inside) (cases_eq l 5))
    (cases_eq l 3)

module _ (m m' : List ℕ) (j n u : ℕ) (so : Sound m) (st : Step m m' j n u) where
  pub offset_step : offset_in m' ≡ offset_in m
  offset_step = u32_kept m m' 4 11 st.fixed 4 (omega arith) (omega arith)

  pub cap_step : capacity_in m' ≡ capacity_in m
  cap_step = u16_kept m m' 4 11 st.fixed 8 (omega arith) (omega arith)

  pub kind-step : kind_in m' ≡ kind_in m
  kind-step = byte_kept m m' 4 11 st.fixed 10 (omega arith) (omega arith)

  -- a text that stood
  pub text-step : (p n : ℕ) → p + n ≤ used_in m → text_in m' p n ≡ text_in m p n
  text-step p n h = ap (λ o. portion m' (o + p) n) offset_step ∙ st.texts (offset_in m + p) n (omega arith) (omega arith)

  pub text-lawful-step : (p n most : ℕ) → TextLawful m p n most → TextLawful m' p n most
  text-lawful-step p n most t =
      let e = text-step p n t.inside in
      record { short = t.short; inside = omega (arith, st.grows, st.used, t.inside); utf8 = subst IsUtf8 (sym e) t.utf8 }

  -- another row
  pub raw-step : (i : ℕ) → i < rows_in m → (i ≡ j → ⊥) → row_at m' (row_place i) ≡ row_at m (row_place i)
  raw-step i h ne =
      let k = st.others i h ne in
      let at : ℕ = row_place i in
      let a = byte_kept m m' _ _ k at (omega arith) (omega arith) in
      let b = byte_kept m m' _ _ k (at + 1) (omega arith) (omega arith) in
      let c = u16_kept m m' _ _ k (at + 2) (omega arith) (omega arith) in
      let d = u32_kept m m' _ _ k (at + 4) (omega arith) (omega arith) in
      let e = u32_kept m m' _ _ k (at + 8) (omega arith) (omega arith) in
      let f = u32_kept m m' _ _ k (at + 12) (omega arith) (omega arith) in
      let g = i64_kept m m' _ _ k (at + 16) (omega arith) (omega arith) in
      λ x. record { list = a x; kind = b x; key_length = c x; key_place = d x; value_length = e x; value_place = f x; time = g x }

  fact-step : (r : Row) → r.key_place + r.key_length ≤ used_in m → r.value_place + r.value_length ≤ used_in m → fact_at m' r ≡ fact_at m r
  fact-step r h g =
      let k = text-step r.key_place r.key_length h in
      let v = text-step r.value_place r.value_length g in
      λ x. record { list = r.list; key = k x; kind = r.kind; value = v x; time = r.time }

  pub row_step : (i : ℕ) → i < rows_in m → (i ≡ j → ⊥) → row_fact m' i ≡ row_fact m i
  row_step i h ne =
      let w = so.each i h in
      ap (fact_at m') (raw-step i h ne) ∙ fact-step (row_at m (row_place i)) w.key.inside (value-inside m i _ _ w)

  -- the row j, where it stood, keeps its list and key
  module _ (ids : j < rows_in m → (list_in m' j ≡ list_in m j) × (key_in m' (row_at m' (row_place j)) ≡ key_in m (row_at m (row_place j)))) where
    pub list-step : (i : ℕ) → i < rows_in m → list_in m' i ≡ list_in m i
    list-step i h =
        ⊎_elim
        (λ (e : i ≡ j). let z : j < rows_in m = subst (λ (k : ℕ). k < rows_in m) e h in ap (list_in m') e ∙ (ids z).0 ∙ ap (list_in m) (sym e))
        (λ (ne : i ≡ j → ⊥). ap (λ (r : Row). r.list) (raw-step i h ne))
        (cases_eq i j)

    pub key_step : (i : ℕ) → i < rows_in m → key_in m' (row_at m' (row_place i)) ≡ key_in m (row_at m (row_place i))
    key_step i h =
        ⊎_elim
        (λ (e : i ≡ j). let z : j < rows_in m = subst (λ (k : ℕ). k < rows_in m) e h in ap (λ k. key_in m' (row_at m' (row_place k))) e ∙ (ids z).1 ∙ ap (λ k. key_in m (row_at m (row_place k))) (sym e))
        (λ (ne : i ≡ j → ⊥). ap (λ (f : RowFact). f.key) (row_step i h ne))
        (cases_eq i j)

    pub above_step : (l i : ℕ) → i ≤ rows_in m → above m' l i ≡ above m l i
    unfolding above
    above_step l zero h = refl
    above_step l (suc i) h =
        let a = above_step l i (omega arith) in
        let b = list-step i (omega arith) in
        λ x. counted (a x) (b x) l

    -- the rows but the row j are lawful as they were
    pub lawful-step : (i : ℕ) → i < rows_in m → (i ≡ j → ⊥) → RowLawful m' i (list_in m' i) (row_at m' (row_place i))
    lawful-step i h ne =
        let w = so.each i h in
        let r = row_at m (row_place i) in
        let l = list_in m i in
        let same_key = text-step r.key_place r.key_length w.key.inside in
        let moved : RowLawful m' i l r = record {
          list = w.list;
          event_above = λ e. let x = w.event_above e in let lt = x.1 in (x.0, x.1, list-step x.0 (omega arith) ∙ x.2);
          link_above = λ e. let x = w.link_above e in let lt = x.1 in (x.0, x.1, list-step x.0 (omega arith) ∙ x.2);
          few = omega (arith, above_step l i (omega arith), w.few);
          long_enough = w.long_enough;
          key = text-lawful-step _ _ _ w.key;
          event = w.event;
          link = λ e. let x = w.link e in record { kind = x.kind; time = x.time; length = x.length; inside = omega (arith, st.grows, st.used, x.inside) };
          attribute = λ a b. let x = w.attribute a b in
              record { time = x.time; inside = omega (arith, st.grows, st.used, x.inside); value = subst (ValueLawful r.kind) (sym (text-step r.value_place r.value_length x.inside)) x.value };
          once = λ e k lt li ke. w.once e k lt (sym (list-step k (omega arith)) ∙ li) (sym (key_step k (omega arith)) ∙ ke ∙ same_key);
        } in
        subst (λ (x : Row). RowLawful m' i x.list x) (sym (raw-step i h ne)) moved

    pub sound-step : Bytes m' → status_in m' ≤ 2 → ((h : ℕ) → Head h → TextLawful m' (place_in m' h) (length_in m' h) (longest h)) → (j < n → RowLawful m' j (list_in m' j) (row_at m' (row_place j))) → Sound m'
    sound-step b s hs rj =
        record {
          bytes = b;
          small = omega (arith, st.size, so.small);
          version = u16_kept m m' 0 2 st.version 0 (omega arith) (omega arith) ∙ so.version;
          first_kind = omega (arith, kind-step, so.first_kind);
          last_kind = omega (arith, kind-step, so.last_kind);
          status = s;
          zero_77 = byte_kept m m' 77 80 st.zeros 77 (omega arith) (omega arith) ∙ so.zero_77;
          zero_78 = byte_kept m m' 77 80 st.zeros 78 (omega arith) (omega arith) ∙ so.zero_78;
          zero_79 = byte_kept m m' 77 80 st.zeros 79 (omega arith) (omega arith) ∙ so.zero_79;
          capacity = omega (arith, cap_step, so.capacity);
          rows = omega (arith, st.count, st.most, cap_step);
          offset = offset_step ∙ so.offset ∙ ap row_place (sym cap_step);
          used = omega (arith, offset_step, st.used, st.fit, st.size);
          heads = hs;
          each = λ i h.
              ⊎_elim
              (λ (e : i ≡ j). subst (λ (k : ℕ). RowLawful m' k (list_in m' k) (row_at m' (row_place k))) (sym e) (rj (omega (arith, st.count))))
              (λ (ne : i ≡ j → ⊥). lawful-step i (st.old i (omega (arith, st.count)) ne) ne)
              (cases_eq i j);
        }
