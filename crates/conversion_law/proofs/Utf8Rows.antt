-- What the rows of a lawful block put into a span is UTF-8: tables whose entries are, links and events.
use Rattle.std.proofs.Common.{ℕ, zero, suc, cond, List, [], ◌∷◌, map, take, filter, Some, None, Option, codes, IsUtf8, sym, refl, ◌≡◌, ◌∙◌, subst, arith}
use Rattle.std.specs.List.{AllByRecursion}
use Rattle.std.specs.Str.{bytes_eq}
use Rattle.std.proofs.lemmas.Bool.{cond_both, eqb-true}
use Rattle.std.proofs.lemmas.List.Elements.{All-from_recursion}
use Rattle.std.proofs.lemmas.Str.{IsUtf8-append, IsUtf8-nil}
use Rattle.lent_bytes.specs.Memory.{rest}
use Rattle.keyed.specs.Keyed.{insert as replace, inserts}
use Rattle.values.specs.Atoms.{Datum}
use Rattle.values.specs.Shown.{display, dd_string, string_repr}
use Rattle.blocks.specs.Facts.{RowFact}
use Rattle.blocks.specs.Projections.{Owned, in_list, of_list, up_to, owning}
use Rattle.readers.specs.Tables.{entry_for}
use Rattle.readers.specs.DatadogKeys.{header, dropped, kept, begins, is_convention_key, http_names, key_by, datadog_key, key_text}
use Rattle.span_args.specs.ReadingOf.{datum_at, shown_by, last_row_of}
use Rattle.conversion.specs.Spans.{Text, bytes_of, same_text, Event, found}
use Rattle.conversion.specs.Forms.{string_form, display_form, plain_form, option_datum}
use Rattle.conversion.specs.Steps.{insert, put, link_entry, link_of, event_entry, event_of, row_key}
use Rattle.conversion_law.specs.TextsAreUtf8.{Utf8Text, Utf8Value, Utf8Link, Utf8Event}
use Rattle.conversion_law.proofs.LawfulRows.{Valued, SoundRow}
use Rattle.conversion_law.proofs.NeverClipped.{whole-row, IfRow, last-of}
use Rattle.conversion_law.proofs.Utf8.{constant, IfUtf8, entry-utf8, rest-utf8}
use Rattle.conversion_law.proofs.Utf8Values.{display-utf8, plain-utf8, string-utf8}

-- tables, of keys of which A holds and values of which B holds
module _ {V : Type 0} (A : Text → Type 0) (B : V → Type 0) where
  abbrev pub Entries : List (Text × V) → Type 0
  Entries m = AllByRecursion (λ p. A p.0 × B p.1) m

  entries-insert : (m : List (Text × V)) (k : Text) (v : V) → A k → B v → Entries m → Entries (insert k v m)
  entries-insert [] k v a b h = ((a, b), tt)
  entries-insert (p ∷ m) k v a b h = cond_both (same_text p.0 k) ((p.0, v) ∷ m) (p ∷ insert k v m) Entries (λ t. ((h.0.0, b), h.1)) (λ f. (h.0, entries-insert m k v a b h.1))

  entries-take : (n : ℕ) (m : List (Text × V)) → Entries m → Entries (take n m)
  entries-take zero m h = tt
  entries-take (suc n) [] h = tt
  entries-take (suc n) (p ∷ m) h = (h.0, entries-take n m h.1)

  pub entries-put : (n : ℕ) (k : Text) (v : V) (m : List (Text × V)) → A k → B v → Entries m → Entries (put n k v m)
  unfolding put
  entries-put n k v m a b h = entries-take n (insert k v m) (entries-insert m k v a b h)

  entries-replace : (m : List (Text × V)) (k : Text) (v : V) → A k → B v → Entries m → Entries (replace same_text m k v)
  entries-replace [] k v a b h = ((a, b), tt)
  entries-replace (p ∷ m) k v a b h = cond_both (same_text p.0 k) ((k, v) ∷ m) (p ∷ replace same_text m k v) Entries (λ t. ((a, b), h.1)) (λ f. (h.0, entries-replace m k v a b h.1))

  pub entries-inserts : (ps m : List (Text × V)) → Entries ps → Entries m → Entries (inserts same_text m ps)
  entries-inserts [] m g h = h
  entries-inserts (p ∷ ps) m g h = entries-inserts ps (replace same_text m p.0 p.1) g.1 (entries-replace m p.0 p.1 g.0.0 g.0.1 h)

  -- what is found
  abbrev pub IfFound : Option V → Type 0
  IfFound None = Unit {0}
  IfFound (Some v) = B v

  pub found-in : (k : List ℕ) (m : List (Text × V)) → Entries m → IfFound (found k m)
  unfolding found
  found-in k [] h = tt
  found-in k (p ∷ m) h = cond_both (bytes_eq (bytes_of p.0) k) (Some p.1) (found k m) IfFound (λ t. h.0.1) (λ f. found-in k m h.1)

-- what holds of each
pub all-mapped : {X Y : Type 0} (P : X → Type 0) (Q : Y → Type 0) (f : X → Y) → ((x : X) → P x → Q (f x)) → (xs : List X) → AllByRecursion P xs → AllByRecursion Q (map f xs)
all-mapped P Q f g [] h = tt
all-mapped P Q f g (x ∷ xs) h = (g x h.0, all-mapped P Q f g xs h.1)

pub all-implied : {X : Type 0} (P Q : X → Type 0) → ((x : X) → P x → Q x) → (xs : List X) → AllByRecursion P xs → AllByRecursion Q xs
all-implied P Q g [] h = tt
all-implied P Q g (x ∷ xs) h = (g x h.0, all-implied P Q g xs h.1)

-- the mapped key of a row
mapped-by : (k : List ℕ) → IsUtf8 k → (o : Option (List ℕ)) → IfUtf8 o → IsUtf8 (key_text (key_by o k))
mapped-by k u None i =
    cond_both (begins (codes "http.request.header.") k) (header (rest k 20)) (cond (is_convention_key k) dropped (kept k)) (λ x. IsUtf8 (key_text x))
    (λ t. IsUtf8-append (codes "http.request.headers.") (rest k 20) (constant (codes "http.request.headers.") refl) (rest-utf8 (codes "http.request.header.") k t (constant (codes "http.request.header.") refl) u))
    (λ f. cond_both (is_convention_key k) dropped (kept k) (λ x. IsUtf8 (key_text x)) (λ t. IsUtf8-nil) (λ f. u))
mapped-by k u (Some t) i = i

mapped-utf8 : (k : List ℕ) → IsUtf8 k → IsUtf8 (key_text (datadog_key k))
mapped-utf8 k u = mapped-by k u (entry_for k http_names) (entry-utf8 k http_names refl)

-- an attribute
pub record Utf8Row (a : RowFact) : Type 0 where
  pub key : IsUtf8 a.key
  pub mapped_key : Utf8Text (row_key a)
  pub as_string : Utf8Text (string_form (datum_at a))
  pub as_display : Utf8Text (display_form (datum_at a))
  pub as_plain : Utf8Text (plain_form (datum_at a))
  pub value : Utf8Value (datum_at a)

row-utf8 : (a : RowFact) → IsUtf8 a.key → Valued a → Utf8Row a
row-utf8 a u v =
    let w = whole-row a v in
    let s : IsUtf8 (shown_by string_repr (datum_at a)) = rw v.is (string-utf8 v.datum v.fits v.readable) in
    let d : IsUtf8 (shown_by display (datum_at a)) = rw v.is (display-utf8 v.datum v.fits v.readable) in
    let p : IsUtf8 (shown_by dd_string (datum_at a)) = rw v.is (plain-utf8 v.datum v.fits v.readable) in
    record {
      key = u;
      mapped_key = subst IsUtf8 (sym w.mapped_key) (mapped-utf8 a.key u);
      as_string = subst IsUtf8 (sym w.as_string) s;
      as_display = subst IsUtf8 (sym w.as_display) d;
      as_plain = subst IsUtf8 (sym w.as_plain) p;
      value = rw v.is v.readable;
    }

-- the rows of a list of attributes, and the last of them with a key
module _ (l : ℕ) (n : l ≡ 3 → ⊥) (o : l ≡ 5 → ⊥) where
  row-of : (a : RowFact) → SoundRow a → a.list ≡ l → Utf8Row a
  row-of a h e = row-utf8 a h.key (h.value (λ t. n (sym e ∙ t), λ t. o (sym e ∙ t)))

  rows-of : (rows : List RowFact) → AllByRecursion SoundRow rows → AllByRecursion Utf8Row (filter (in_list l) rows)
  rows-of [] h = tt
  rows-of (a ∷ rows) h =
      cond_both (in_list l a) (a ∷ filter (in_list l) rows) (filter (in_list l) rows) (AllByRecursion Utf8Row)
      (λ t. (row-of a h.0 (eqb-true a.list l t), rows-of rows h.1)) (λ f. rows-of rows h.1)

  pub list-rows : (rows : List RowFact) → AllByRecursion SoundRow rows → AllByRecursion Utf8Row (of_list l rows)
  unfolding of_list
  list-rows = rows-of

  pub last-row : (rows : List RowFact) → AllByRecursion SoundRow rows → (k : List ℕ) → IfRow Utf8Row (last_row_of l k rows)
  last-row rows h k = last-of Utf8Row l k rows (all-implied SoundRow (λ a. a.list ≡ l → Utf8Row a) row-of rows h)

pub string-found : (o : Option RowFact) → IfRow Utf8Row o → Utf8Text (string_form (option_datum o))
string-found None h = IsUtf8-nil
string-found (Some a) h = h.as_string

pub display-found : (o : Option RowFact) → IfRow Utf8Row o → Utf8Text (display_form (option_datum o))
display-found None h = IsUtf8-nil
display-found (Some a) h = h.as_display

-- links and events
record Utf8Owned (o : Owned) : Type 0 where
  head : IsUtf8 o.head.key
  attributes : AllByRecursion Utf8Row o.attributes

up-to : (P : RowFact → Type 0) (h : ℕ) (rows : List RowFact) → AllByRecursion P rows → AllByRecursion P (up_to h rows)
unfolding up_to
up-to P h [] a = tt
up-to P h (r ∷ rs) a = cond_both (in_list h r) [] (r ∷ up_to h rs) (AllByRecursion P) (λ t. tt) (λ f. (a.0, up-to P h rs a.1))

owned : (h l : ℕ) → (l ≡ 3 → ⊥) → (l ≡ 5 → ⊥) → (rows : List RowFact) → AllByRecursion SoundRow rows → AllByRecursion Utf8Owned (owning h l rows)
unfolding owning
owned h l n o [] a = tt
owned h l n o (r ∷ rs) a =
    cond_both (in_list h r) (record { head = r; attributes = of_list l (up_to h rs) } ∷ owning h l rs) (owning h l rs) (AllByRecursion Utf8Owned)
    (λ t. (record { head = a.0.key; attributes = list-rows l n o (up_to h rs) (up-to SoundRow h rs a.1) }, owned h l n o rs a.1))
    (λ f. owned h l n o rs a.1)

link-utf8 : (o : Owned) → Utf8Owned o → Utf8Link (link_of o)
link-utf8 o h =
    record {
      trace_state = h.head;
      attributes =
          All-from_recursion (λ p. Utf8Text p.0 × Utf8Text p.1) _
          (entries-inserts Utf8Text Utf8Text (map link_entry o.attributes) [] (all-mapped Utf8Row (λ p. Utf8Text p.0 × Utf8Text p.1) link_entry (λ a r. (r.key, r.as_string)) o.attributes h.attributes) tt);
    }

-- of an event the values are UTF-8, and so is the text that a step may take of one
abbrev pub Utf8Said : Option Datum → Type 0
Utf8Said v = Utf8Value v × Utf8Text (plain_form v)

pub record Utf8Told (e : Event) : Type 0 where
  pub name : Utf8Text e.name
  pub attributes : Entries Utf8Text Utf8Said e.attributes

event-utf8 : (o : Owned) → Utf8Owned o → Utf8Told (event_of o)
event-utf8 o h =
    record {
      name = h.head;
      attributes = entries-inserts Utf8Text Utf8Said (map event_entry o.attributes) [] (all-mapped Utf8Row (λ p. Utf8Text p.0 × Utf8Said p.1) event_entry (λ a r. (r.key, (r.value, r.as_plain))) o.attributes h.attributes) tt;
    }

pub as-event : (e : Event) → Utf8Told e → Utf8Event e
as-event e h =
    record {
      name = h.name;
      keys = All-from_recursion (λ p. Utf8Text p.0) e.attributes (all-implied (λ p. Utf8Text p.0 × Utf8Said p.1) (λ p. Utf8Text p.0) (λ p q. q.0) e.attributes h.attributes);
      values = All-from_recursion (λ p. Utf8Value p.1) e.attributes (all-implied (λ p. Utf8Text p.0 × Utf8Said p.1) (λ p. Utf8Value p.1) (λ p q. q.1.0) e.attributes h.attributes);
    }

pub links-utf8 : (rows : List RowFact) → AllByRecursion SoundRow rows → AllByRecursion Utf8Link (map link_of (owning 5 6 rows))
links-utf8 rows h = all-mapped Utf8Owned Utf8Link link_of link-utf8 (owning 5 6 rows) (owned 5 6 (λ e. omega arith) (λ e. omega arith) rows h)

pub events-utf8 : (rows : List RowFact) → AllByRecursion SoundRow rows → AllByRecursion Utf8Told (map event_of (owning 3 4 rows))
events-utf8 rows h = all-mapped Utf8Owned Utf8Told event_of event-utf8 (owning 3 4 rows) (owned 3 4 (λ e. omega arith) (λ e. omega arith) rows h)
