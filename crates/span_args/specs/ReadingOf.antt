-- The reading of a span's facts: of each known key the last row of its list. Texts are clipped to the memory of a reader,
-- which no text of a lawful block exceeds.
use Rattle.std.specs.Prelude.{ℕ, cond, ◌&&◌, List, [], ◌∷◌, map, ℤ, Some, None, Option, ◌==◌, nat_lt, slice_index_or}
use Rattle.std.specs.Str.{bytes_eq}
use Rattle.std.specs.Option.{option_map}
use Rattle.lent_bytes.specs.Memory.{clip}
use Rattle.names.specs.Keys.{keys}
use Rattle.values.specs.Atoms.{Datum}
use Rattle.values.specs.Kinds.{kind_of}
use Rattle.values.specs.Format.{datum_in}
use Rattle.values.specs.Shown.{display, string_repr, number_of}
use Rattle.blocks.specs.Facts.{RowFact, Facts, facts, row_fact}
use Rattle.blocks.specs.Layout.{rows_in}
use Rattle.readers.specs.Reading.{Known, Reading}

-- the value of a row; none where its kind's number names no kind
abbrev pub datum_at : RowFact → Option Datum
datum_at f = option_map (λ k. datum_in k f.value) (kind_of f.kind)

abbrev pub shown_by : (Datum → List ℕ) → Option Datum → List ℕ
shown_by show None = []
shown_by show (Some d) = show d

abbrev pub number_by : Option Datum → Option ℤ
number_by None = None
number_by (Some d) = number_of d

-- what the span says by a row, and what the resource does
abbrev pub span_known : RowFact → Known
span_known f = record { text = clip 4096 (shown_by string_repr (datum_at f)); number = number_by (datum_at f) }

abbrev pub resource_shown : RowFact → List ℕ
resource_shown f = clip 4096 (shown_by display (datum_at f))

abbrev pub or_row : Option RowFact → Option RowFact → Option RowFact
or_row None b = b
or_row (Some f) b = Some f

-- the last row of the list l with the key k
abbrev pub last_row_of : ℕ → List ℕ → List RowFact → Option RowFact
last_row_of l k [] = None
last_row_of l k (f ∷ fs) = or_row (last_row_of l k fs) (cond (f.list == l && bytes_eq f.key k) (Some f) None)

-- list 0 is the span's, list 1 the resource's; past the known keys nothing is said
abbrev pub reading_of : Facts → Reading
reading_of f =
    record {
      name = clip 4096 f.name;
      kind = f.kind;
      span = λ j. slice_index_or (map (λ k. option_map span_known (last_row_of 0 k f.rows)) keys) j None;
      resource = λ j. slice_index_or (map (λ k. option_map resource_shown (last_row_of 1 k f.rows)) keys) j None;
    }

-- the same by row numbers that were noted for the keys, whatever they are
abbrev pub row_in : List ℕ → Option ℕ → Option RowFact
row_in m None = None
row_in m (Some i) = cond (nat_lt i (rows_in m)) (Some (row_fact m i)) None

abbrev pub reading_by : List ℕ → List (Option ℕ) → List (Option ℕ) → Reading
reading_by m spans resources =
    record {
      name = clip 4096 (facts m).name;
      kind = (facts m).kind;
      span = λ j. option_map span_known (row_in m (slice_index_or spans j None));
      resource = λ j. option_map resource_shown (row_in m (slice_index_or resources j None));
    }

-- the key of a row of the list l, and the empty text, which is no known key, of any other row
abbrev pub list_key : ℕ → RowFact → List ℕ
list_key l f = cond (f.list == l) f.key []
