-- The texts of a value that fits go into a span whole, and so do the keys and the texts of a reading.
use Rattle.std.proofs.Common.{◌≡◌, ℕ, zero, suc, ◌+◌, ◌≤◌, cond, ◌&&◌, eqb, List, [], ◌∷◌, ◌++◌, map, length, get_or, is_some, ℤ, pos, negsuc, Some, None, Option, codes, bytes_eq, sym, refl, ap, ◌∙◌, arith, length-append, length-drop}
use mathlib.Core.Path.{fun_ext}
use lib.Ieee.{of_bits, binary64}
use Rattle.std.specs.List.{AllByRecursion}
use Rattle.std.specs.Option.{option_map}
use Rattle.std.proofs.lemmas.Bool.{cond_both, and_parts, eqb-true}
use Rattle.std.proofs.lemmas.Fmt.{decimal_digit}
use Rattle.std.proofs.lemmas.List.Elements.{All-from_recursion}
use Rattle.names.specs.Keys.{keys}
use Rattle.lent_bytes.specs.Memory.{clip, rest}
use Rattle.lent_bytes.proofs.Clips.{clip-all}
use Rattle.values.specs.Atoms.{Datum, flag, whole, double, words, single, several}
use Rattle.values.specs.Doubles.{whole_of}
use Rattle.values.specs.Shown.{display, dd_string, string_repr, text_by_number}
use Rattle.values.specs.Laws.{Unclipped as NotClipped}
use Rattle.blocks.specs.Layout.{offset_in, place_in, length_in}
use Rattle.blocks.specs.Facts.{RowFact, Facts, facts}
use Rattle.readers.specs.DatadogKeys.{Key, header, dropped, kept, begins, is_convention_key, http_names, key_by, key_text}
use Rattle.readers.specs.Tables.{entry_for}
use Rattle.span_args.specs.ReadingOf.{datum_at, shown_by, number_by, span_known, resource_shown, or_row, last_row_of, reading_of}
use Rattle.conversion.specs.Spans.{bytes_of}
use Rattle.conversion.specs.Forms.{number_form, string_form, display_form, plain_form, key_form}
use Rattle.conversion_law.specs.NeverClipped.{IsAttribute, Whole, whole_known, whole_text, whole_reading, NeverClipped}
use Rattle.conversion_law.proofs.LawfulRows.{Valued, SoundRow, portion-short, sound-rows}

-- values
number-whole : (o : Option ℤ) (t : List ℕ) → NotClipped (text_by_number o t) → bytes_of (number_form o t) ≡ text_by_number o t
number-whole None t c = c
number-whole (Some (pos zero)) t c = refl
number-whole (Some (pos (suc zero))) t c = refl
number-whole (Some (pos (suc (suc n)))) t c = c
number-whole (Some (negsuc n)) t c = c

string-whole : (d : Datum) → NotClipped (string_repr d) → bytes_of (string_form (Some d)) ≡ string_repr d
string-whole (single (flag b)) c = refl
string-whole (single (whole (pos zero))) c = sym (decimal_digit 0 (omega arith))
string-whole (single (whole (pos (suc zero)))) c = sym (decimal_digit 1 (omega arith))
string-whole (single (whole (pos (suc (suc n))))) c = c
string-whole (single (whole (negsuc n))) c = c
string-whole (single (double p t)) c = number-whole (whole_of (of_bits binary64 p)) t c
string-whole (single (words t)) c = refl
string-whole (several k xs) c = c

display-whole : (d : Datum) → NotClipped (display d) → bytes_of (display_form (Some d)) ≡ display d
display-whole (single (flag b)) c = c
display-whole (single (whole z)) c = c
display-whole (single (double p t)) c = c
display-whole (single (words t)) c = refl
display-whole (several k xs) c = c

plain-whole : (d : Datum) → NotClipped (dd_string d) → bytes_of (plain_form (Some d)) ≡ dd_string d
plain-whole (single (flag b)) c = c
plain-whole (single (whole z)) c = c
plain-whole (single (double p t)) c = c
plain-whole (single (words t)) c = refl
plain-whole (several k xs) c = c

-- keys
abbrev KeyWhole : Key → Type 0
KeyWhole k = bytes_of (key_form k) ≡ key_text k

header-whole : (k : List ℕ) → length k ≤ 255 → KeyWhole (header (rest k 20))
unfolding rest
header-whole k h =
    let d = length-drop 20 k in
    let a = length-append (codes "http.request.headers.") (rest k 20) in
    clip-all 4096 (codes "http.request.headers." ++ rest k 20) (omega arith)

key-by-whole : (o : Option (List ℕ)) (k : List ℕ) → length k ≤ 255 → KeyWhole (key_by o k)
key-by-whole None k h =
    cond_both (begins (codes "http.request.header.") k) (header (rest k 20)) (cond (is_convention_key k) dropped (kept k)) KeyWhole
    (λ t. header-whole k h)
    (λ f. cond_both (is_convention_key k) dropped (kept k) KeyWhole (λ t. refl) (λ f. refl))
key-by-whole (Some t) k h = refl

-- rows
pub whole-row : (a : RowFact) → Valued a → Whole a
whole-row a v =
    record {
      said = ap is_some v.is;
      as_string = rw v.is (string-whole v.datum v.string_whole);
      as_display = rw v.is (display-whole v.datum v.display_whole);
      as_plain = rw v.is (plain-whole v.datum v.plain_whole);
      mapped_key = key-by-whole (entry_for a.key http_names) a.key v.key_short;
    }

-- the last row with a key
abbrev pub IfRow : (RowFact → Type 0) → Option RowFact → Type 0
IfRow P None = Unit {0}
IfRow P (Some a) = P a

or-row : (P : RowFact → Type 0) (o q : Option RowFact) → IfRow P o → IfRow P q → IfRow P (or_row o q)
or-row P None q h g = g
or-row P (Some a) q h g = h

pub last-of : (P : RowFact → Type 0) (l : ℕ) (k : List ℕ) (rows : List RowFact) → AllByRecursion (λ a. a.list ≡ l → P a) rows → IfRow P (last_row_of l k rows)
last-of P l k [] h = tt
last-of P l k (a ∷ rows) h =
    or-row P (last_row_of l k rows) _ (last-of P l k rows h.1)
    (cond_both (eqb a.list l && bytes_eq a.key k) (Some a) None (IfRow P) (λ t. h.0 (eqb-true a.list l (and_parts (eqb a.list l) _ t).0)) (λ f. tt))

-- of a list of attributes
in-list : (l : ℕ) → (l ≡ 3 → ⊥) → (l ≡ 5 → ⊥) → (rows : List RowFact) → AllByRecursion SoundRow rows → AllByRecursion (λ a. a.list ≡ l → Valued a) rows
in-list l n o [] h = tt
in-list l n o (a ∷ rows) h = (λ e. h.0.value (λ t. n (sym e ∙ t), λ t. o (sym e ∙ t)), in-list l n o rows h.1)

pub span-value : (rows : List RowFact) → AllByRecursion SoundRow rows → (k : List ℕ) → IfRow Valued (last_row_of 0 k rows)
span-value rows h k = last-of Valued 0 k rows (in-list 0 (λ e. omega arith) (λ e. omega arith) rows h)

pub resource-value : (rows : List RowFact) → AllByRecursion SoundRow rows → (k : List ℕ) → IfRow Valued (last_row_of 1 k rows)
resource-value rows h k = last-of Valued 1 k rows (in-list 1 (λ e. omega arith) (λ e. omega arith) rows h)

-- a reading
known-same : (a : RowFact) → Valued a → span_known a ≡ whole_known a
known-same a v =
    let e : clip 4096 (shown_by string_repr (datum_at a)) ≡ shown_by string_repr (datum_at a) = rw v.is v.string_whole in
    λ i. record { text = e i; number = number_by (datum_at a) }

shown-same : (a : RowFact) → Valued a → resource_shown a ≡ whole_text a
shown-same a v = rw v.is v.display_whole

option-same : {X : Type 0} (f g : RowFact → X) → ((a : RowFact) → Valued a → f a ≡ g a) → (o : Option RowFact) → IfRow Valued o → option_map f o ≡ option_map g o
option-same f g h None v = refl
option-same f g h (Some a) v = ap Some (h a v)

reading-same : (f : Facts) → AllByRecursion SoundRow f.rows → NotClipped f.name → reading_of f ≡ whole_reading f
reading-same f h n =
    let s : (λ k. option_map span_known (last_row_of 0 k f.rows)) ≡ (λ k. option_map whole_known (last_row_of 0 k f.rows)) =
    fun_ext (λ k. option-same span_known whole_known known-same (last_row_of 0 k f.rows) (span-value f.rows h k)) in
    let r : (λ k. option_map resource_shown (last_row_of 1 k f.rows)) ≡ (λ k. option_map whole_text (last_row_of 1 k f.rows)) =
    fun_ext (λ k. option-same resource_shown whole_text shown-same (last_row_of 1 k f.rows) (resource-value f.rows h k)) in
    λ i. record { name = n i; kind = f.kind; span = λ j. get_or (map (s i) keys) j None; resource = λ j. get_or (map (r i) keys) j None }

wholes : (rows : List RowFact) → AllByRecursion SoundRow rows → AllByRecursion (λ a. IsAttribute a → Whole a) rows
wholes [] h = tt
wholes (a ∷ rows) h = (λ i. whole-row a (h.0.value i), wholes rows h.1)

pub never_clipped_lem : NeverClipped
never_clipped_lem m w =
    let s = sound-rows m w in
    let n : NotClipped (facts m).name = clip-all 4096 (facts m).name (omega (arith, portion-short m (offset_in m + place_in m 80) (length_in m 80), w.name.short)) in
    record { rows = All-from_recursion (λ a. IsAttribute a → Whole a) (facts m).rows (wholes (facts m).rows s); reading = reading-same (facts m) s n }
