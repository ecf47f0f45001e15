-- When a block is refused, in the order of the checks.
use Rattle.std.specs.Prelude.{ℕ, zero, suc, ◌+◌, ◌*◌, ◌<◌, Bool, true, false, cond, ◌&&◌, ◌||◌, List, [], ◌∷◌, length, ℤ, pos, negsuc, Some, None, Option, ◌==◌, nat_le, nat_lt, slice_index}
use Rattle.std.specs.Option.{option_map}
use Rattle.std.specs.Str.{bytes_eq}
use Rattle.values.specs.Unicode.{is_text}
use Rattle.values.specs.Faults.{value_fault}
use Rattle.values.specs.declared.check.ValueFault.{ValueFault}
use Rattle.values.specs.declared.check.ValueFault.TheVariants.{Form}
use Rattle.blocks.specs.declared.faults.TextFault.{TextFault}
use Rattle.blocks.specs.declared.faults.TextFault.TheVariants.{Place as TextPlace, NotUtf8 as TextNotUtf8}
use Rattle.blocks.specs.declared.faults.RowFault.{RowFault}
use Rattle.blocks.specs.declared.faults.RowFault.TheVariants.{List as ListFault, Key, KeyNotUtf8, Value, Twice}
use Rattle.blocks.specs.declared.faults.RowAt.{RowAt}
use Rattle.blocks.specs.declared.faults.BlockFault.{BlockFault}
use Rattle.blocks.specs.declared.faults.BlockFault.TheVariants.{Length, Header, Layout, Text, Row as RowFaultAt}
use Rattle.blocks.specs.First.{or_else, first_from}
use Rattle.blocks.specs.Layout.{version_in, rows_in, offset_in, capacity_in, kind_in, status_in, used_in, state_in, text_in, place_in, length_in, row_place, Row, row_at}

-- the block as a whole
abbrev pub length_fault : List ℕ → Option BlockFault
length_fault m = cond (nat_lt (length m) 120) (Some Length) (cond (nat_lt 65536 (length m)) (Some Length) None)

abbrev pub header_ok : List ℕ → Bool
header_ok m = version_in m == 1 && (nat_le 1 (kind_in m) && (nat_le (kind_in m) 5 && (nat_le (status_in m) 2 && (state_in m == 1 && (slice_index m 77 == 0 && (slice_index m 78 == 0 && slice_index m 79 == 0))))))

abbrev pub layout_ok : List ℕ → Bool
layout_ok m = nat_le (capacity_in m) 1024 && (nat_le (rows_in m) (capacity_in m) && (offset_in m == 120 + 24 * capacity_in m && nat_le (offset_in m + used_in m) (length m)))

abbrev pub frame_fault : List ℕ → Option BlockFault
frame_fault m = or_else (length_fault m) (cond (header_ok m) (cond (layout_ok m) None (Some Layout)) (Some Header))

-- a text of n bytes at a place, at most `most` long and within the text used
abbrev pub within : List ℕ → ℕ → ℕ → ℕ → Bool
within m place n most = nat_le n most && nat_le (place + n) (used_in m)

abbrev pub text_fault : List ℕ → ℕ → ℕ → Option TextFault
text_fault m at most = cond (within m (place_in m at) (length_in m at) most) (cond (is_text (text_in m (place_in m at) (length_in m at))) None (Some TextNotUtf8)) (Some TextPlace)

abbrev pub texts_fault : List ℕ → Option TextFault
texts_fault m = or_else (text_fault m 80 255) (or_else (text_fault m 88 512) (or_else (text_fault m 96 255) (or_else (text_fault m 104 255) (text_fault m 112 1024))))

-- a row: its list, and how many rows of it there are above, under the same owner for attributes of events and links
abbrev pub list_in : List ℕ → ℕ → ℕ
list_in m i = slice_index m (row_place i)

-- a row of the list l begins a new run of the list r: an event of its attributes, a link of its
abbrev pub owns : ℕ → ℕ → Bool
owns l r = (l == 3 && r == 4) || (l == 5 && r == 6)

-- the count of the list r behind one more row, of the list l
abbrev pub counted : ℕ → ℕ → ℕ → ℕ
counted n l r = cond (owns l r) 0 (cond (l == r) (n + 1) n)

-- how many rows of the list r stand above the row i, behind the nearest owner for lists 4 and 6
unfoldable pub above : List ℕ → ℕ → ℕ → ℕ
above m r zero = 0
above m r (suc i) = counted (above m r i) (list_in m i) r

-- a list's number is above 6, its owner is missing, or it has 128 rows already; `n` are the counts by list
abbrev pub list_fault_at : (ℕ → ℕ) → ℕ → Bool
list_fault_at n l = nat_lt 6 l || ((l == 4 && n 3 == 0) || ((l == 6 && n 5 == 0) || nat_le 128 (n l)))

abbrev pub list_fault : List ℕ → ℕ → ℕ → Bool
list_fault m i l = list_fault_at (λ r. above m r i) l

-- the same by a table of the counts, as the code keeps it
abbrev pub counted_all : List ℕ → ℕ → List ℕ
counted_all n l =
    counted (slice_index n 0) l 0 ∷ counted (slice_index n 1) l 1 ∷ counted (slice_index n 2) l 2 ∷ counted (slice_index n 3) l 3 ∷ counted (slice_index n 4) l 4 ∷ counted (slice_index n 5) l 5 ∷ counted (slice_index n 6) l 6 ∷ []

abbrev pub list_fault_by : List ℕ → ℕ → Bool
list_fault_by n l = list_fault_at (λ r. slice_index n r) l

abbrev pub aboves : List ℕ → ℕ → List ℕ
aboves m i = above m 0 i ∷ above m 1 i ∷ above m 2 i ∷ above m 3 i ∷ above m 4 i ∷ above m 5 i ∷ above m 6 i ∷ []

abbrev pub FewRows : List ℕ → Type 0
FewRows n = (r : ℕ) → slice_index n r < 65536

-- the shortest and the longest key of a list: an event's name and a link's trace state may be empty
abbrev pub least_key : ℕ → ℕ
least_key l = cond (l == 3 || l == 5) 0 1

abbrev pub longest_key : ℕ → ℕ
longest_key l = cond (l == 5) 512 255

abbrev pub key_in : List ℕ → Row → List ℕ
key_in m r = text_in m r.key_place r.key_length

abbrev pub value_in : List ℕ → Row → List ℕ
value_in m r = text_in m r.value_place r.value_length

abbrev pub key_fault : List ℕ → ℕ → Row → Option RowFault
key_fault m l r = cond (nat_le (least_key l) r.key_length && within m r.key_place r.key_length (longest_key l)) (cond (is_text (key_in m r)) None (Some KeyNotUtf8)) (Some Key)

-- the value: events have none, a link's is its two ids and a flag, and only events have a time
abbrev pub zero_time : ℤ → Bool
zero_time (pos zero) = true
zero_time (pos (suc n)) = false
zero_time (negsuc n) = false

abbrev pub event_value : Row → Option ValueFault
event_value r = cond (r.kind == 0 && (r.value_length == 0 && r.value_place == 0)) None (Some Form)

abbrev pub link_value : List ℕ → Row → Option ValueFault
link_value m r = cond (r.kind == 0 && (zero_time r.time && (r.value_length == 25 && nat_le (r.value_place + r.value_length) (used_in m)))) None (Some Form)

abbrev pub attribute_value : List ℕ → Row → Option ValueFault
attribute_value m r = cond (zero_time r.time && nat_le (r.value_place + r.value_length) (used_in m)) (value_fault r.kind (text_in m r.value_place r.value_length)) (Some Form)

abbrev pub row_value : List ℕ → ℕ → Row → Option ValueFault
row_value m l r = cond (l == 3) (event_value r) (cond (l == 5) (link_value m r) (attribute_value m r))

-- a resource key that stands above already
abbrev pub resource_key : List ℕ → List ℕ → ℕ → Bool
resource_key m k j = list_in m j == 1 && bytes_eq (key_in m (row_at m (row_place j))) k

unfoldable pub said : List ℕ → List ℕ → ℕ → Bool
said m k zero = false
said m k (suc j) = resource_key m k j || said m k j

abbrev pub twice_fault : List ℕ → ℕ → ℕ → Row → Option RowFault
twice_fault m i l r = cond (l == 1 && said m (key_in m r) i) (Some Twice) None

abbrev pub content_fault : List ℕ → ℕ → ℕ → Row → Option RowFault
content_fault m i l r = or_else (key_fault m l r) (or_else (option_map Value (row_value m l r)) (twice_fault m i l r))

abbrev pub row_fault : List ℕ → ℕ → ℕ → Row → Option RowFault
row_fault m i l r = cond (list_fault m i l) (Some ListFault) (content_fault m i l r)

abbrev pub row_at_fault : List ℕ → ℕ → Option RowAt
row_at_fault m i = option_map (λ f. record { row = i; fault = f }) (row_fault m i (list_in m i) (row_at m (row_place i)))

-- the whole block
abbrev pub block_fault : List ℕ → Option BlockFault
block_fault m = or_else (frame_fault m) (or_else (option_map Text (texts_fault m)) (option_map RowFaultAt (first_from (row_at_fault m) 0 (rows_in m))))
