-- Numbers that stand in memory. A missing byte reads as 0.
use Rattle.std.specs.Prelude.{ℕ, ◌+◌, ◌*◌, ◌/◌, ◌%◌, List, [], ◌∷◌, ℤ, slice_index}
use Rattle.std.proofs.Common.{to_z, of_z}
use Rattle.std.specs.Int.{w64}
use Rattle.lent_bytes.specs.Memory.{portion}

-- the number that bytes are, lowest byte first
abbrev pub le2 : List ℕ → ℕ
le2 b = slice_index b 0 + slice_index b 1 * 256

abbrev pub le4 : List ℕ → ℕ
le4 b = slice_index b 0 + slice_index b 1 * 256 + slice_index b 2 * 65536 + slice_index b 3 * 16777216

abbrev pub le8 : List ℕ → ℕ
le8 b =
    slice_index b 0 + slice_index b 1 * 256 + slice_index b 2 * 65536 + slice_index b 3 * 16777216 + slice_index b 4 * 4294967296
    + slice_index b 5 * 1099511627776
    + slice_index b 6 * 281474976710656
    + slice_index b 7 * 72057594037927936

-- highest byte first
abbrev pub be8 : List ℕ → ℕ
be8 b =
    slice_index b 0 * 72057594037927936 + slice_index b 1 * 281474976710656 + slice_index b 2 * 1099511627776
    + slice_index b 3 * 4294967296
    + slice_index b 4 * 16777216
    + slice_index b 5 * 65536
    + slice_index b 6 * 256
    + slice_index b 7

-- eight bytes as a signed number, in two's complement
abbrev pub int8 : List ℕ → ℤ
int8 b = to_z w64 (le8 b)

-- the number that stands in m at `at`
abbrev pub u16_in : List ℕ → ℕ → ℕ
u16_in m at = le2 (portion m at 2)

abbrev pub u32_in : List ℕ → ℕ → ℕ
u32_in m at = le4 (portion m at 4)

abbrev pub u64_in : List ℕ → ℕ → ℕ
u64_in m at = le8 (portion m at 8)

abbrev pub i64_in : List ℕ → ℕ → ℤ
i64_in m at = int8 (portion m at 8)

abbrev pub id_in : List ℕ → ℕ → ℕ
id_in m at = be8 (portion m at 8)

-- the bytes of a number, lowest first
abbrev pub bytes2 : ℕ → List ℕ
bytes2 v = (v % 256) ∷ (v / 256 % 256) ∷ []

abbrev pub bytes4 : ℕ → List ℕ
bytes4 v = (v % 256) ∷ (v / 256 % 256) ∷ (v / 65536 % 256) ∷ (v / 16777216 % 256) ∷ []

abbrev pub bytes8 : ℕ → List ℕ
bytes8 v =
    (v % 256) ∷ (v / 256 % 256) ∷ (v / 65536 % 256) ∷ (v / 16777216 % 256) ∷ (v / 4294967296 % 256)
    ∷ (v / 1099511627776 % 256)
    ∷ (v / 281474976710656 % 256)
    ∷ (v / 72057594037927936 % 256)
    ∷ []

abbrev pub ints8 : ℤ → List ℕ
ints8 v = bytes8 (of_z w64 v)
