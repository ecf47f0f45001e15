-- The blocks that the format allows, in its own words. `OpenedExactly` says that open accepts just these.
use Rattle.std.specs.Prelude.{◌≡◌, ℕ, ◌+◌, ◌*◌, ◌<◌, ◌≤◌, List, [], ◌∷◌, length, pos, None, IsUtf8, ◌≢◌, slice_index_or}
use Rattle.lent_bytes.specs.Memory.{Bytes}
use Rattle.values.specs.Atoms.{Atom, Datum, flag, whole, double, words, single, several}
use Rattle.values.specs.Encoding.{Encodes}
use Rattle.values.specs.Shown.{display}
use Rattle.blocks.specs.Layout.{version_in, rows_in, offset_in, capacity_in, kind_in, status_in, used_in, state_in, text_in, place_in, length_in, row_place, Row, row_at}
use Rattle.blocks.specs.Faults.{list_in, above, least_key, longest_key, key_in, block_fault}

-- the block as a whole
pub record FrameLawful (m : List ℕ) : Type 0 where
  pub least : 120 ≤ length m
  pub most : length m ≤ 65536
  pub version : version_in m ≡ 1
  pub first_kind : 1 ≤ kind_in m
  pub last_kind : kind_in m ≤ 5
  pub status : status_in m ≤ 2
  pub ended : state_in m ≡ 1
  pub zero_77 : slice_index_or m 77 0 ≡ 0
  pub zero_78 : slice_index_or m 78 0 ≡ 0
  pub zero_79 : slice_index_or m 79 0 ≡ 0
  pub capacity : capacity_in m ≤ 1024
  pub rows : rows_in m ≤ capacity_in m
  pub offset : offset_in m ≡ 120 + 24 * capacity_in m
  pub used : offset_in m + used_in m ≤ length m

-- a text of n bytes at a place: not too long, within the text used, and UTF-8
pub record TextLawful (m : List ℕ) (place n most : ℕ) : Type 0 where
  pub short : n ≤ most
  pub inside : place + n ≤ used_in m
  pub utf8 : IsUtf8 (text_in m place n)

-- every text in a value is UTF-8
abbrev pub ReadableAtom : Atom → Type 0
ReadableAtom (flag b) = Unit {0}
ReadableAtom (whole z) = Unit {0}
ReadableAtom (double p t) = IsUtf8 t
ReadableAtom (words t) = IsUtf8 t

abbrev pub ReadableAll : List Atom → Type 0
ReadableAll [] = Unit {0}
ReadableAll (a ∷ xs) = ReadableAtom a × ReadableAll xs

abbrev pub Readable : Datum → Type 0
Readable (single a) = ReadableAtom a
Readable (several k xs) = ReadableAll xs

-- bytes that encode a value of the kind n, with texts in UTF-8 and a display text of at most 4,096 bytes
abbrev pub ValueLawful : ℕ → List ℕ → Type 0
ValueLawful n b = (d : Datum) × Encodes n b d × Readable d × (length (display d) ≤ 4096)

-- events have no value; a link's is its ids and its flag, 25 bytes; only events have a time
pub record EventLawful (r : Row) : Type 0 where
  pub kind : r.kind ≡ 0
  pub length : r.value_length ≡ 0
  pub place : r.value_place ≡ 0

pub record LinkLawful (m : List ℕ) (r : Row) : Type 0 where
  pub kind : r.kind ≡ 0
  pub time : r.time ≡ pos 0
  pub length : r.value_length ≡ 25
  pub inside : r.value_place + r.value_length ≤ used_in m

pub record AttributeLawful (m : List ℕ) (r : Row) : Type 0 where
  pub time : r.time ≡ pos 0
  pub inside : r.value_place + r.value_length ≤ used_in m
  pub value : ValueLawful r.kind (text_in m r.value_place r.value_length)

-- the row i, of the list l: an attribute of an event or a link has one above, and its list has at most 128 rows, with it,
-- under one owner; a resource has each key once
pub record RowLawful (m : List ℕ) (i l : ℕ) (r : Row) : Type 0 where
  pub list : l ≤ 6
  pub event_above : l ≡ 4 → (j : ℕ) × (j < i) × (list_in m j ≡ 3)
  pub link_above : l ≡ 6 → (j : ℕ) × (j < i) × (list_in m j ≡ 5)
  pub few : above m l i < 128
  pub long_enough : least_key l ≤ r.key_length
  pub key : TextLawful m r.key_place r.key_length (longest_key l)
  pub event : l ≡ 3 → EventLawful r
  pub link : l ≡ 5 → LinkLawful m r
  pub attribute : (l ≢ 3) → (l ≢ 5) → AttributeLawful m r
  pub once : l ≡ 1 → (j : ℕ) → j < i → list_in m j ≡ 1 → key_in m (row_at m (row_place j)) ≢ key_in m r

pub record Lawful (m : List ℕ) : Type 0 where
  pub frame : FrameLawful m
  pub name : TextLawful m (place_in m 80) (length_in m 80) 255
  pub trace_state : TextLawful m (place_in m 88) (length_in m 88) 512
  pub scope_name : TextLawful m (place_in m 96) (length_in m 96) 255
  pub scope_version : TextLawful m (place_in m 104) (length_in m 104) 255
  pub description : TextLawful m (place_in m 112) (length_in m 112) 1024
  pub rows : (i : ℕ) → i < rows_in m → RowLawful m i (list_in m i) (row_at m (row_place i))

abbrev pub OpenedExactly : Type 0
OpenedExactly = (m : List ℕ) → Bytes m → (block_fault m ≡ None → Lawful m) × (Lawful m → block_fault m ≡ None)
