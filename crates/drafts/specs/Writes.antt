-- What calls write: rows, texts of the header and numbers of the header.
use Rattle.std.specs.Prelude.{ℕ, ◌+◌, ◌/◌, ◌%◌, min, cond, List, [], ◌∷◌, ◌++◌, length, replicate, ℤ, Some, None, Option, ◌==◌}
use Rattle.lent_bytes.specs.Memory.{written}
use Rattle.lent_bytes.specs.Fields.{u32_in, bytes2, bytes4, ints8}
use Rattle.blocks.specs.Layout.{rows_in, offset_in, used_in, row_place, Row, row_at}
use Rattle.drafts.specs.Calls.{Opening}
use Rattle.drafts.specs.Held.{Content}

-- a row's 24 bytes
abbrev pub row_bytes : Row → List ℕ
row_bytes r = r.list ∷ r.kind ∷ (bytes2 r.key_length ++ (bytes4 r.key_place ++ (bytes4 r.value_length ++ (bytes4 r.value_place ++ ints8 r.time))))

-- the row j, n rows in all, and more text, which goes behind the text in use
abbrev pub rowed : List ℕ → ℕ → ℕ → Row → List ℕ → List ℕ
rowed m j n r t = written (written (written (written m (row_place j) (row_bytes r)) (offset_in m + used_in m) t) 2 (bytes2 n)) 12 (bytes4 (used_in m + length t))

-- a new row, with its key and then its value at u; an event has no value
abbrev pub new_row : ℕ → ℕ → List ℕ → Content → Row
new_row u l k c =
    record {
      list = l;
      kind = c.kind;
      key_length = length k;
      key_place = u;
      value_length = length c.value;
      value_place = cond (l == 3) 0 (u + length k);
      time = c.time;
    }

-- a row with another kind and value, at u
abbrev pub valued : Row → ℕ → Content → Row
valued r u c =
    record {
      list = r.list;
      kind = c.kind;
      key_length = r.key_length;
      key_place = r.key_place;
      value_length = length c.value;
      value_place = u;
      time = c.time;
    }

-- in the row found, or in a new one
abbrev pub stored : List ℕ → Option ℕ → ℕ → List ℕ → Content → List ℕ
stored m None l k c = rowed m (rows_in m) (rows_in m + 1) (new_row (used_in m) l k c) (k ++ c.value)
stored m (Some i) l k c = rowed m i (rows_in m) (valued (row_at m (row_place i)) (used_in m) c) c.value

-- a text of the header, whose place and length stand at h
abbrev pub headed : List ℕ → ℕ → List ℕ → List ℕ
headed m h t = written (written (written m (offset_in m + used_in m) t) h (bytes4 (used_in m) ++ bytes4 (length t))) 12 (bytes4 (used_in m + length t))

-- Ok has no description; Error has one
abbrev pub status_written : List ℕ → ℕ → List ℕ → List ℕ
status_written m s d = cond (s == 1) (written (written m 112 (bytes4 0 ++ bytes4 0)) 11 (1 ∷ [])) (written (headed m 112 d) 11 (2 ∷ []))

-- one more dropped, up to what four bytes hold
abbrev pub drop_more : List ℕ → ℕ → List ℕ
drop_more m at = written m at (bytes4 (min 4294967295 (u32_in m at + 1)))

-- an id, highest byte first
abbrev pub id_bytes : ℕ → List ℕ
id_bytes v =
    (v / 72057594037927936 % 256) ∷ (v / 281474976710656 % 256) ∷ (v / 1099511627776 % 256) ∷ (v / 4294967296 % 256)
    ∷ (v / 16777216 % 256)
    ∷ (v / 65536 % 256)
    ∷ (v / 256 % 256)
    ∷ (v % 256)
    ∷ []

abbrev pub opening_texts : Opening → List ℕ
opening_texts o = o.name ++ (o.trace_state ++ (o.scope_name ++ o.scope_version))

-- the header of a draft that starts: version 1, no rows, recording, the texts one after another and no description
abbrev pub head_bytes : Opening → List ℕ
head_bytes o =
    let a : ℕ = length o.name in
    let b : ℕ = length o.trace_state in
    let c : ℕ = length o.scope_name in
    let d : ℕ = length o.scope_version in
    bytes2 1 ++ (bytes2 0 ++ (bytes4 (row_place o.capacity) ++ (bytes2 o.capacity ++ (o.kind ∷ 0 ∷ (bytes4 (a + (b + (c + d)))
    ++ (id_bytes o.trace_high ++ (id_bytes o.trace_low ++ (id_bytes o.span_id ++ (id_bytes o.parent_id
    ++ (ints8 o.start ++ (replicate 24 0
    ++ (bytes4 0 ++ (bytes4 a ++ (bytes4 a ++ (bytes4 b ++ (bytes4 (a + b) ++ (bytes4 c ++ (bytes4 (a + (b + c)) ++ (bytes4 d
    ++ replicate 8 0)))))))))))))))))))

-- memory of n bytes in which a draft has started
unfoldable pub started : ℕ → Opening → List ℕ
started n o = written (written (replicate n 0) 0 (head_bytes o)) (row_place o.capacity) (opening_texts o)

-- memory whose draft has ended
unfoldable pub ended : List ℕ → ℤ → List ℕ
ended m end = written (written m 56 (ints8 end)) 76 (1 ∷ [])
