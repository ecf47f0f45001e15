-- The layout of a block. Reads are total: a missing byte is 0, and a text ends where the block ends.
use Rattle.std.specs.Prelude.{ℕ, ◌+◌, ◌*◌, List, ℤ, slice_index}
use Rattle.lent_bytes.specs.Memory.{portion}
use Rattle.lent_bytes.specs.Fields.{u16_in, u32_in, i64_in}
use Rattle.blocks.specs.declared.layout.RawRow.{RawRow}

-- the header, 120 bytes
abbrev pub version_in : List ℕ → ℕ
version_in m = u16_in m 0

abbrev pub rows_in : List ℕ → ℕ
rows_in m = u16_in m 2

abbrev pub offset_in : List ℕ → ℕ
offset_in m = u32_in m 4

abbrev pub capacity_in : List ℕ → ℕ
capacity_in m = u16_in m 8

abbrev pub kind_in : List ℕ → ℕ
kind_in m = slice_index m 10

abbrev pub status_in : List ℕ → ℕ
status_in m = slice_index m 11

abbrev pub used_in : List ℕ → ℕ
used_in m = u32_in m 12

abbrev pub state_in : List ℕ → ℕ
state_in m = slice_index m 76

-- places count from the text offset
abbrev pub text_in : List ℕ → ℕ → ℕ → List ℕ
text_in m place n = portion m (offset_in m + place) n

-- a header text, by where its place and length stand
abbrev pub place_in : List ℕ → ℕ → ℕ
place_in m at = u32_in m at

abbrev pub length_in : List ℕ → ℕ → ℕ
length_in m at = u32_in m (at + 4)

-- the row i has 24 bytes
abbrev pub row_place : ℕ → ℕ
row_place i = 120 + 24 * i

-- a row as it stands
pub record Row : Type 0 where
  pub list : ℕ
  pub kind : ℕ
  pub key_length : ℕ
  pub key_place : ℕ
  pub value_length : ℕ
  pub value_place : ℕ
  pub time : ℤ

abbrev pub row_at : List ℕ → ℕ → Row
row_at m at =
    record {
      list = slice_index m at;
      kind = slice_index m (at + 1);
      key_length = u16_in m (at + 2);
      key_place = u32_in m (at + 4);
      value_length = u32_in m (at + 8);
      value_place = u32_in m (at + 12);
      time = i64_in m (at + 16);
    }

-- what the code's row means
abbrev pub raw_of : RawRow → Row
raw_of r =
    record {
      list = r.list;
      kind = r.kind;
      key_length = r.key_length;
      key_place = r.key_place;
      value_length = r.value_length;
      value_place = r.value_place;
      time = r.time;
    }
