-- Open accepts just the lawful blocks.
use Rattle.std.proofs.Common.{◌≡◌, ℕ, zero, suc, ◌+◌, ◌*◌, ◌<◌, ◌≤◌, Bool, true, false, ◌&&◌, ◌||◌, eqb, ltb, leb, ◌⊎◌, List, [], ◌∷◌, length, get_or, ℤ, pos, negsuc, Some, None, Ok, Err, Decides, Option, Result, sym, refl, ap, ◌∙◌, subst, inl, inr, ⊎_elim, arith, MatchResult}
use Rattle.std.specs.Result.{result_err}
use Rattle.blocks.specs.declared.faults.BlockFault.{BlockFault}
use Rattle.std.proofs.lemmas.Slice.Eq.{bytes_eq-Decides}
use Rattle.std.proofs.lemmas.Bool.{false≢true, leb-true, le-leb, eqb-true, eqb-false, eq-eqb, ne_eqb, cases_Bool, cases_lt}
use Rattle.std.proofs.lemmas.Bool.Decides.{Decides-eqb, Decides-ltb, Decides-and, Decides-or, Decides-below_or}
use Rattle.lent_bytes.specs.Memory.{Bytes}
use Rattle.lent_bytes.proofs.Endian.{bytes-portion}
use Rattle.values.specs.Atoms.{Atom, Datum, flag, whole, double, words, single, several}
use Rattle.values.specs.declared.check.ValueFault.TheVariants.{Form, NotUtf8, TooLong}
use Rattle.values.specs.Format.{value_of}
use Rattle.values.specs.Shown.{display, readable, all_readable, datum_readable}
use Rattle.values.specs.Unicode.{is_text}
use Rattle.values.specs.Faults.{value_fault, datum_fault}
use Rattle.values.proofs.Decided.{is_text_decides}
use Rattle.values.proofs.Readback.{read_back}
use Rattle.values.proofs.Writeback.{written_back}
use Rattle.blocks.specs.declared.faults.TextFault.TheVariants.{Place as TextPlace, NotUtf8 as TextNotUtf8}
use Rattle.blocks.specs.declared.faults.RowFault.TheVariants.{List as ListFault, Key, KeyNotUtf8, Value, Twice}
use Rattle.blocks.specs.declared.faults.BlockFault.TheVariants.{Length, Header as Header-fault, Layout, Text, Row as RowFaultAt}
use Rattle.blocks.specs.First.{first_from}
use Rattle.blocks.specs.Layout.{version_in, rows_in, offset_in, capacity_in, kind_in, status_in, used_in, state_in, text_in, place_in, length_in, row_place, Row, row_at}
use Rattle.blocks.specs.Faults.{length_fault, header_ok, layout_ok, frame_fault, within, text_fault, texts_fault, list_in, owns, above, list_fault, least_key, longest_key, key_in, key_fault, zero_time, event_value, link_value, attribute_value, row_value, resource_key, said, twice_fault, content_fault, row_fault, row_at_fault, block_fault}
use Rattle.blocks.specs.Lawful.{FrameLawful, TextLawful, ReadableAtom, ReadableAll, Readable, ValueLawful, EventLawful, LinkLawful, AttributeLawful, RowLawful, Lawful, OpenedExactly}
use Rattle.blocks.proofs.Clean.{Clean, some_none, clean_like, clean_none, clean_or, clean_and, clean_not, clean_by, clean_mapped, clean_first}

decides_leb : (a b : ℕ) → Decides (leb a b) (a ≤ b)
decides_leb a b = (leb-true a b, le-leb a b)

within_decides : (m : List ℕ) (place n most : ℕ) → Decides (within m place n most) ((n ≤ most) × (place + n ≤ used_in m))
within_decides m place n most = Decides-and _ _ (decides_leb n most) (decides_leb (place + n) (used_in m))

-- the frame
length_clean : (m : List ℕ) → Clean (length_fault m) ((120 ≤ length m) × (length m ≤ 65536))
length_clean m =
    clean_like (length_fault m) (λ p. let a = p.0 in let b = p.1.0 in (⊎_elim (λ lt. absurd (a lt)) (λ ge. ge) (cases_lt (length m) 120), ⊎_elim (λ lt. absurd (b lt)) (λ ge. ge) (cases_lt 65536 (length m)))) (λ p. let a = p.0 in let b = p.1 in (λ x. omega arith, (λ x. omega arith, tt)))
    (clean_not (ltb (length m) 120) _ Length (Decides-ltb (length m) 120) (clean_not (ltb 65536 (length m)) None Length (Decides-ltb 65536 (length m)) clean_none))

abbrev Header : List ℕ → Type 0
Header m = (version_in m ≡ 1) × ((1 ≤ kind_in m) × ((kind_in m ≤ 5) × ((status_in m ≤ 2) × ((state_in m ≡ 1) × ((get_or m 77 0 ≡ 0) × ((get_or m 78 0 ≡ 0) × (get_or m 79 0 ≡ 0)))))))

header_decides : (m : List ℕ) → Decides (header_ok m) (Header m)
header_decides m =
    Decides-and _ _ (Decides-eqb (version_in m) 1) (Decides-and _ _ (decides_leb 1 (kind_in m)) (Decides-and _ _ (decides_leb (kind_in m) 5) (Decides-and _ _ (decides_leb (status_in m) 2) (Decides-and _ _ (Decides-eqb (state_in m) 1) (Decides-and _ _ (Decides-eqb (get_or m 77 0) 0) (Decides-and _ _ (Decides-eqb (get_or m 78 0) 0) (Decides-eqb (get_or m 79 0) 0)))))))

abbrev LaidOut : List ℕ → Type 0
LaidOut m = (capacity_in m ≤ 1024) × ((rows_in m ≤ capacity_in m) × ((offset_in m ≡ 120 + 24 * capacity_in m) × (offset_in m + used_in m ≤ length m)))

layout_decides : (m : List ℕ) → Decides (layout_ok m) (LaidOut m)
layout_decides m =
    Decides-and _ _ (decides_leb (capacity_in m) 1024) (Decides-and _ _ (decides_leb (rows_in m) (capacity_in m)) (Decides-and _ _ (Decides-eqb (offset_in m) (120 + 24 * capacity_in m)) (decides_leb (offset_in m + used_in m) (length m))))

frame_clean : (m : List ℕ) → Clean (frame_fault m) (FrameLawful m)
frame_clean m =
    clean_like (frame_fault m)
    (λ p.
    let h = p.1.0 in
    let l = p.1.1.0 in
    record {
      least = p.0.0;
      most = p.0.1;
      version = h.0;
      first_kind = h.1.0;
      last_kind = h.1.1.0;
      status = h.1.1.1.0;
      ended = h.1.1.1.1.0;
      zero_77 = h.1.1.1.1.1.0;
      zero_78 = h.1.1.1.1.1.1.0;
      zero_79 = h.1.1.1.1.1.1.1;
      capacity = l.0;
      rows = l.1.0;
      offset = l.1.1.0;
      used = l.1.1.1;
    })
    (λ f. ((f.least, f.most), ((f.version, (f.first_kind, (f.last_kind, (f.status, (f.ended, (f.zero_77, (f.zero_78, f.zero_79))))))), ((f.capacity, (f.rows, (f.offset, f.used))), tt))))
    (clean_or (length_fault m) _ (length_clean m) (clean_and (header_ok m) _ Header-fault (header_decides m) (clean_and (layout_ok m) None Layout (layout_decides m) clean_none)))

-- texts
text_clean : (m : List ℕ) (at most : ℕ) → Clean (text_fault m at most) (TextLawful m (place_in m at) (length_in m at) most)
text_clean m at most =
    clean_like (text_fault m at most)
    (λ p. record { short = p.0.0; inside = p.0.1; utf8 = p.1.0 })
    (λ t. ((t.short, t.inside), (t.utf8, tt)))
    (clean_and (within m (place_in m at) (length_in m at) most) _ TextPlace (within_decides m (place_in m at) (length_in m at) most) (clean_and (is_text (text_in m (place_in m at) (length_in m at))) None TextNotUtf8 (is_text_decides _) clean_none))

-- values
atom_decides : (a : Atom) → Decides (readable a) (ReadableAtom a)
atom_decides (flag b) = (λ _. tt, λ _. refl)
atom_decides (whole z) = (λ _. tt, λ _. refl)
atom_decides (double p t) = is_text_decides t
atom_decides (words t) = is_text_decides t

all_decides : (xs : List Atom) → Decides (all_readable xs) (ReadableAll xs)
all_decides [] = (λ _. tt, λ _. refl)
all_decides (a ∷ xs) = Decides-and (readable a) (all_readable xs) (atom_decides a) (all_decides xs)

datum_decides : (d : Datum) → Decides (datum_readable d) (Readable d)
datum_decides (single a) = atom_decides a
datum_decides (several k xs) = all_decides xs

datum_clean : (d : Datum) → Clean (datum_fault (Some d)) (Readable d × (length (display d) ≤ 4096))
datum_clean d =
    clean_like (datum_fault (Some d)) (λ p. (p.0, p.1.0)) (λ p. (p.0, (p.1, tt)))
    (clean_and (datum_readable d) _ NotUtf8 (datum_decides d) (clean_and (leb (length (display d)) 4096) None TooLong (decides_leb (length (display d)) 4096) clean_none))

value-by : (n : ℕ) (b : List ℕ) (o : Option Datum) → value_of n b ≡ o → Bytes b → datum_fault o ≡ None → ValueLawful n b
value-by n b None e h f = some_none Form f
value-by n b (Some d) e h f = let c = (datum_clean d).0 f in (d, written_back n b d h e, c.0, c.1)

pub value_clean : (n : ℕ) (b : List ℕ) → Bytes b → Clean (value_fault n b) (ValueLawful n b)
value_clean n b h = (value-by n b (value_of n b) refl h, λ v. ap datum_fault (read_back n b v.0 v.1) ∙ (datum_clean v.0).1 (v.2, v.3))

-- lists: nothing begins a new run of events or of links, so each of them that stands above is counted
neither : (x y : Bool) → (x && false) || (y && false) ≡ false
neither true true = refl
neither true false = refl
neither false true = refl
neither false false = refl

abbrev pub Unowned : ℕ → Type 0
Unowned l = (r : ℕ) → owns r l ≡ false

pub events_unowned : Unowned 3
events_unowned r = neither (eqb r 3) (eqb r 5)

pub links_unowned : Unowned 5
links_unowned r = neither (eqb r 3) (eqb r 5)

above-here : (m : List ℕ) (l i : ℕ) → Unowned l → list_in m i ≡ l → above m l (suc i) ≡ above m l i + 1
unfolding above
above-here m l i n e = rw (n (list_in m i), eq-eqb (list_in m i) l e)

above_else : (m : List ℕ) (l i : ℕ) → Unowned l → (list_in m i ≡ l → ⊥) → above m l (suc i) ≡ above m l i
unfolding above
above_else m l i n e = rw (n (list_in m i), ne_eqb (list_in m i) l e)

abbrev pub StandsAbove : List ℕ → ℕ → ℕ → Type 0
StandsAbove m l i = (j : ℕ) × (j < i) × (list_in m j ≡ l)

pub counted_stands : (m : List ℕ) (l i : ℕ) → Unowned l → (above m l i ≡ 0 → ⊥) → StandsAbove m l i
unfolding above
counted_stands m l zero n h = absurd (h refl)
counted_stands m l (suc i) n h =
    ⊎_elim
    (λ t. (i, omega arith, eqb-true (list_in m i) l t))
    (λ f. let e = above_else m l i n (eqb-false (list_in m i) l f) in let r = counted_stands m l i n (λ z. h (e ∙ z)) in (r.0, omega (arith, r.1), r.2))
    (cases_Bool (eqb (list_in m i) l))

stands_counted : (m : List ℕ) (l i : ℕ) → Unowned l → StandsAbove m l i → above m l i ≡ 0 → ⊥
stands_counted m l zero n s z = omega (arith, s.1)
stands_counted m l (suc i) n s z =
    ⊎_elim
    (λ t. let e = above-here m l i n (eqb-true (list_in m i) l t) in omega arith)
    (λ f.
    let e = above_else m l i n (eqb-false (list_in m i) l f) in
    let d : s.0 ≡ i → ⊥ = λ x. eqb-false (list_in m i) l f (subst (λ (k : ℕ). list_in m k ≡ l) x s.2) in
    let lt = s.1 in
    stands_counted m l i n (s.0, omega arith, s.2) (sym e ∙ z))
    (cases_Bool (eqb (list_in m i) l))

abbrev ListRefused : List ℕ → ℕ → ℕ → Type 0
ListRefused m i l = (6 < l) ⊎ (((l ≡ 4) × (above m 3 i ≡ 0)) ⊎ (((l ≡ 6) × (above m 5 i ≡ 0)) ⊎ (128 ≤ above m l i)))

list_decides : (m : List ℕ) (i l : ℕ) → Decides (list_fault m i l) (ListRefused m i l)
list_decides m i l =
    Decides-or _ _ (Decides-ltb 6 l) (Decides-or _ _ (Decides-and _ _ (Decides-eqb l 4) (Decides-eqb (above m 3 i) 0)) (Decides-or _ _ (Decides-and _ _ (Decides-eqb l 6) (Decides-eqb (above m 5 i) 0)) (decides_leb 128 (above m l i))))

zero-time : (z : ℤ) → Decides (zero_time z) (z ≡ pos 0)
zero-time (pos zero) = (λ _. refl, λ _. refl)
zero-time (pos (suc n)) = (λ e. absurd (false≢true e), λ e. absurd (let z : suc n ≡ 0 = cc in omega arith))
zero-time (negsuc n) = (λ e. absurd (false≢true e), λ e. let z : ◌≡◌ {A = ℕ} 0 1 = cc in absurd (omega arith))

-- values of rows
event_clean : (r : Row) → Clean (event_value r) (EventLawful r)
event_clean r =
    clean_like (event_value r) (λ p. record { kind = p.0.0; length = p.0.1.0; place = p.0.1.1 }) (λ e. ((e.kind, (e.length, e.place)), tt))
    (clean_and _ None Form (Decides-and _ _ (Decides-eqb r.kind 0) (Decides-and _ _ (Decides-eqb r.value_length 0) (Decides-eqb r.value_place 0))) clean_none)

link_clean : (m : List ℕ) (r : Row) → Clean (link_value m r) (LinkLawful m r)
link_clean m r =
    clean_like (link_value m r) (λ p. record { kind = p.0.0; time = p.0.1.0; length = p.0.1.1.0; inside = p.0.1.1.1 }) (λ e. ((e.kind, (e.time, (e.length, e.inside))), tt))
    (clean_and _ None Form (Decides-and _ _ (Decides-eqb r.kind 0) (Decides-and _ _ (zero-time r.time) (Decides-and _ _ (Decides-eqb r.value_length 25) (decides_leb (r.value_place + r.value_length) (used_in m))))) clean_none)

attribute_clean : (m : List ℕ) (r : Row) → Bytes m → Clean (attribute_value m r) (AttributeLawful m r)
attribute_clean m r h =
    clean_like (attribute_value m r) (λ p. record { time = p.0.0; inside = p.0.1; value = p.1 }) (λ e. ((e.time, e.inside), e.value))
    (clean_and _ _ Form (Decides-and _ _ (zero-time r.time) (decides_leb (r.value_place + r.value_length) (used_in m))) (value_clean r.kind (text_in m r.value_place r.value_length) (bytes-portion m _ _ h)))

value_row : (m : List ℕ) (l : ℕ) (r : Row) → Bytes m → Clean (row_value m l r) ((l ≡ 3 → EventLawful r) × ((l ≡ 3 → ⊥) → (l ≡ 5 → LinkLawful m r) × ((l ≡ 5 → ⊥) → AttributeLawful m r)))
value_row m l r h = clean_by (eqb l 3) (event_value r) _ (Decides-eqb l 3) (event_clean r) (clean_by (eqb l 5) (link_value m r) (attribute_value m r) (Decides-eqb l 5) (link_clean m r) (attribute_clean m r h))

-- keys
key_clean : (m : List ℕ) (l : ℕ) (r : Row) → Clean (key_fault m l r) ((least_key l ≤ r.key_length) × TextLawful m r.key_place r.key_length (longest_key l))
key_clean m l r =
    clean_like (key_fault m l r) (λ p. (p.0.0, record { short = p.0.1.0; inside = p.0.1.1; utf8 = p.1.0 })) (λ p. ((p.0, (p.1.short, p.1.inside)), (p.1.utf8, tt)))
    (clean_and _ _ Key (Decides-and _ _ (decides_leb (least_key l) r.key_length) (within_decides m r.key_place r.key_length (longest_key l))) (clean_and (is_text (key_in m r)) None KeyNotUtf8 (is_text_decides _) clean_none))

-- a resource key that stands above
said_decides : (m k : List ℕ) (i : ℕ) → Decides (said m k i) ((j : ℕ) × (j < i) × ((list_in m j ≡ 1) × (key_in m (row_at m (row_place j)) ≡ k)))
unfolding said
said_decides m k i = Decides-below_or (resource_key m k) (λ j. (list_in m j ≡ 1) × (key_in m (row_at m (row_place j)) ≡ k)) (said m k) (λ j. Decides-and _ _ (Decides-eqb (list_in m j) 1) (bytes_eq-Decides _ _)) refl (λ n. refl) i

twice_clean : (m : List ℕ) (i l : ℕ) (r : Row) → Clean (twice_fault m i l r) (l ≡ 1 → (j : ℕ) → j < i → list_in m j ≡ 1 → key_in m (row_at m (row_place j)) ≡ key_in m r → ⊥)
twice_clean m i l r =
    clean_like (twice_fault m i l r) (λ p e j a b c. p.0 (e, (j, a, (b, c)))) (λ p. (λ q. p q.0 q.1.0 q.1.1 q.1.2.0 q.1.2.1, tt))
    (clean_not _ None Twice (Decides-and _ _ (Decides-eqb l 1) (said_decides m (key_in m r) i)) clean_none)

row_clean : (m : List ℕ) (i l : ℕ) (r : Row) → Bytes m → Clean (row_fault m i l r) (RowLawful m i l r)
row_clean m i l r h =
    clean_like (row_fault m i l r)
    (λ p.
    let n = p.0 in
    let k = p.1.0 in
    let v = p.1.1.0 in
    record {
      list = ⊎_elim (λ lt. absurd (n (inl lt))) (λ ge. ge) (cases_lt 6 l);
      event_above = λ e. counted_stands m 3 i events_unowned (λ z. n (inr (inl (e, z))));
      link_above = λ e. counted_stands m 5 i links_unowned (λ z. n (inr (inr (inl (e, z)))));
      few = ⊎_elim (λ lt. lt) (λ ge. absurd (n (inr (inr (inr ge))))) (cases_lt (above m l i) 128);
      long_enough = k.0;
      key = k.1;
      event = v.0;
      link = λ e. (v.1 (λ f. let z : ◌≡◌ {A = ℕ} 3 5 = sym f ∙ e in omega arith)).0 e;
      attribute = λ a b. (v.1 a).1 b;
      once = p.1.1.1;
    })
    (λ w. (
      ⊎_elim (λ lt. let a = w.list in omega arith) (⊎_elim (λ q. stands_counted m 3 i events_unowned (w.event_above q.0) q.1) (⊎_elim (λ q. stands_counted m 5 i links_unowned (w.link_above q.0) q.1) (λ ge. let a = w.few in omega arith))),
      ((w.long_enough, w.key), ((w.event, λ a. (w.link, w.attribute a)), w.once)),
    ))
    (clean_not (list_fault m i l) (content_fault m i l r) ListFault (list_decides m i l) (clean_or (key_fault m l r) _ (key_clean m l r) (clean_or _ (twice_fault m i l r) (clean_mapped Value (row_value m l r) (value_row m l r h)) (twice_clean m i l r))))

rows_clean : (m : List ℕ) → Bytes m → Clean (first_from (row_at_fault m) 0 (rows_in m)) ((i : ℕ) → i < rows_in m → RowLawful m i (list_in m i) (row_at m (row_place i)))
rows_clean m h =
    clean_like (first_from (row_at_fault m) 0 (rows_in m)) (λ p i lt. p i (omega arith) (omega arith)) (λ p i a b. p i (omega arith))
    (clean_first (row_at_fault m) (λ i. RowLawful m i (list_in m i) (row_at m (row_place i))) (λ i. clean_mapped _ (row_fault m i (list_in m i) (row_at m (row_place i))) (row_clean m i (list_in m i) (row_at m (row_place i)) h)) (rows_in m) 0)

pub opened_exactly : OpenedExactly
opened_exactly m h =
    clean_like (block_fault m)
    (λ p.
    let t = p.1.0 in
    record { frame = p.0; name = t.0; trace_state = t.1.0; scope_name = t.1.1.0; scope_version = t.1.1.1.0; description = t.1.1.1.1; rows = p.1.1 })
    (λ w. (w.frame, ((w.name, (w.trace_state, (w.scope_name, (w.scope_version, w.description)))), w.rows)))
    (clean_or (frame_fault m) _ (frame_clean m) (clean_or _ _ (clean_mapped Text (texts_fault m) (clean_or (text_fault m 80 255) _ (text_clean m 80 255) (clean_or (text_fault m 88 512) _ (text_clean m 88 512) (clean_or (text_fault m 96 255) _ (text_clean m 96 255) (clean_or (text_fault m 104 255) (text_fault m 112 1024) (text_clean m 104 255) (text_clean m 112 1024)))))) (clean_mapped RowFaultAt _ (rows_clean m h))))

-- of an answer
pub answered : {S : Type 0} (m : List ℕ) (r : Result S BlockFault) → Bytes m → result_err r ≡ block_fault m → MatchResult r (λ _. Lawful m) (λ _. Lawful m → ⊥)
answered m (Ok s) h e = (opened_exactly m h).0 (sym e)
answered m (Err f) h e = λ w. some_none f (e ∙ (opened_exactly m h).1 w)
