-- Of a lawful block no text is clipped: what goes into a span is each text whole.
use Rattle.std.specs.Prelude.{◌≡◌, ℕ, true, List, map, is_some, None, All, ◌≢◌, slice_index_or}
use Rattle.std.specs.Option.{option_map}
use Rattle.names.specs.Keys.{keys}
use Rattle.values.specs.Shown.{display, dd_string, string_repr}
use Rattle.blocks.specs.Facts.{RowFact, Facts, facts}
use Rattle.blocks.specs.Lawful.{Lawful}
use Rattle.readers.specs.Reading.{Known, Reading}
use Rattle.readers.specs.DatadogKeys.{datadog_key, key_text}
use Rattle.span_args.specs.ReadingOf.{datum_at, shown_by, number_by, last_row_of, reading_of}
use Rattle.conversion.specs.Spans.{bytes_of}
use Rattle.conversion.specs.Forms.{string_form, display_form, plain_form}
use Rattle.conversion.specs.Steps.{row_key}

-- events and links have no value, and every other row is an attribute
abbrev pub IsAttribute : RowFact → Type 0
IsAttribute a = (a.list ≢ 3) × (a.list ≢ 5)

-- it has a value, whose texts go into a span whole, and so does its mapped key
pub record Whole (a : RowFact) : Type 0 where
  pub said : is_some (datum_at a) ≡ true
  pub as_string : bytes_of (string_form (datum_at a)) ≡ shown_by string_repr (datum_at a)
  pub as_display : bytes_of (display_form (datum_at a)) ≡ shown_by display (datum_at a)
  pub as_plain : bytes_of (plain_form (datum_at a)) ≡ shown_by dd_string (datum_at a)
  pub mapped_key : bytes_of (row_key a) ≡ key_text (datadog_key a.key)

-- the reading with each text whole
abbrev pub whole_known : RowFact → Known
whole_known a = record { text = shown_by string_repr (datum_at a); number = number_by (datum_at a) }

abbrev pub whole_text : RowFact → List ℕ
whole_text a = shown_by display (datum_at a)

abbrev pub whole_reading : Facts → Reading
whole_reading f =
    record {
      name = f.name;
      kind = f.kind;
      span = λ j. slice_index_or (map (λ k. option_map whole_known (last_row_of 0 k f.rows)) keys) j None;
      resource = λ j. slice_index_or (map (λ k. option_map whole_text (last_row_of 1 k f.rows)) keys) j None;
    }

pub record Unclipped (f : Facts) : Type 0 where
  pub rows : All (λ (a : RowFact). IsAttribute a → Whole a) f.rows
  pub reading : reading_of f ≡ whole_reading f

abbrev pub NeverClipped : Type 0
NeverClipped = (m : List ℕ) → Lawful m → Unclipped (facts m)
