-- What a written row leaves: its own numbers, its texts, and all else.
use Rattle.std.proofs.Common.{◌≡◌, ℕ, ◌+◌, ◌^◌, ◌<◌, ◌≤◌, List, length, get_or, refl, ◌∙◌, ⊎_elim, arith, w64, SFits}
use Rattle.std.proofs.lemmas.Bool.{cases_lt}
use Rattle.lent_bytes.specs.Memory.{portion, written}
use Rattle.lent_bytes.specs.Fields.{u16_in, u32_in, i64_in, bytes2, bytes4}
use Rattle.lent_bytes.proofs.Frames.{length-written, le2-bytes2, le4-bytes4, int8-ints8}
use Rattle.blocks.specs.Layout.{rows_in, offset_in, capacity_in, used_in, row_place, Row, row_at}
use Rattle.drafts.specs.Writes.{row_bytes, rowed}
use Rattle.block_laws.proofs.Kept.{Kept, byte_kept, u16_kept, u32_kept, i64_kept, portion-place, byte_place, u16_place, u32_place, i64_place, behind, ahead, then, narrow}
use Rattle.block_laws.proofs.Sound.{Sound, Step}

-- the numbers of a row's bytes
module _ (x : Row) where
  pub row_list : get_or (row_bytes x) 0 0 ≡ x.list
  row_list = refl

  pub row-kind : get_or (row_bytes x) 1 0 ≡ x.kind
  row-kind = refl

  pub row-key-length : x.key_length < 2 ^ 16 → u16_in (row_bytes x) 2 ≡ x.key_length
  unfolding portion
  row-key-length h = le2-bytes2 x.key_length h

  pub row-key-place : x.key_place < 2 ^ 32 → u32_in (row_bytes x) 4 ≡ x.key_place
  unfolding portion
  row-key-place h = le4-bytes4 x.key_place h

  pub row-value-length : x.value_length < 2 ^ 32 → u32_in (row_bytes x) 8 ≡ x.value_length
  unfolding portion
  row-value-length h = le4-bytes4 x.value_length h

  pub row-value-place : x.value_place < 2 ^ 32 → u32_in (row_bytes x) 12 ≡ x.value_place
  unfolding portion
  row-value-place h = le4-bytes4 x.value_place h

  pub row-time : SFits w64 x.time → i64_in (row_bytes x) 16 ≡ x.time
  unfolding portion
  row-time h = int8-ints8 x.time h

pub two : (x : ℕ) → x < 2 ^ 16 → u16_in (bytes2 x) 0 ≡ x
unfolding portion
two x h = le2-bytes2 x h

pub four : (x : ℕ) → x < 2 ^ 32 → u32_in (bytes4 x) 0 ≡ x
unfolding portion
four x h = le4-bytes4 x h

-- what the row j must meet
pub record Fit (m : List ℕ) (j n : ℕ) (x : Row) (t : List ℕ) : Type 0 where
  pub inside : j < capacity_in m
  pub most : n ≤ capacity_in m
  pub old : (i : ℕ) → i < n → (i ≡ j → ⊥) → i < rows_in m
  pub room : offset_in m + (used_in m + length t) ≤ length m
  pub short : x.key_length < 2 ^ 16
  pub key : x.key_place + x.key_length ≤ used_in m + length t
  pub value : x.value_place + x.value_length ≤ used_in m + length t
  pub time : SFits w64 x.time

module _ (m : List ℕ) (so : Sound m) (j n : ℕ) (x : Row) (t : List ℕ) (ok : Fit m j n x t) where
  abbrev c : ℕ
  c = capacity_in m

  abbrev u : ℕ
  u = used_in m

  abbrev at : ℕ
  at = offset_in m + used_in m

  abbrev w1 : List ℕ
  w1 = written m (row_place j) (row_bytes x)

  abbrev w2 : List ℕ
  w2 = written w1 at t

  abbrev w3 : List ℕ
  w3 = written w2 2 (bytes2 n)

  abbrev w4 : List ℕ
  w4 = rowed m j n x t

  -- the row ends before the texts
  low : row_place j + 24 ≤ at
  low = omega (arith, ok.inside, so.offset)

  pub rowed-size : length w4 ≡ length m
  rowed-size = length-written w3 _ _ ∙ length-written w2 _ _ ∙ length-written w1 _ _ ∙ length-written m _ _

  -- what stays: before the number of rows, between it and the text used, from there to the row, and from the row on
  pub rowed-start : Kept m w4 0 2
  rowed-start = then m w3 w4 _ _ (then m w2 w3 _ _ (then m w1 w2 _ _ (behind m _ _ _ _ (omega arith)) (behind w1 _ _ _ _ (omega (arith, low)))) (behind w2 _ _ _ _ (omega arith))) (behind w3 _ _ _ _ (omega arith))

  pub rowed-fixed : Kept m w4 4 12
  rowed-fixed = then m w3 w4 _ _ (then m w2 w3 _ _ (then m w1 w2 _ _ (behind m _ _ _ _ (omega arith)) (behind w1 _ _ _ _ (omega (arith, low)))) (ahead w2 _ _ _ _ (omega arith))) (behind w3 _ _ _ _ (omega arith))

  pub rowed-front : Kept m w4 16 (row_place j)
  rowed-front = then m w3 w4 _ _ (then m w2 w3 _ _ (then m w1 w2 _ _ (behind m _ _ _ _ (omega arith)) (behind w1 _ _ _ _ (omega (arith, low)))) (ahead w2 _ _ _ _ (omega arith))) (ahead w3 _ _ _ _ (omega arith))

  pub rowed_upper : Kept m w4 (row_place j + 24) at
  rowed_upper = then m w3 w4 _ _ (then m w2 w3 _ _ (then m w1 w2 _ _ (ahead m _ _ _ _ (omega arith)) (behind w1 _ _ _ _ (omega arith))) (ahead w2 _ _ _ _ (omega arith))) (ahead w3 _ _ _ _ (omega arith))

  row : Kept w1 w4 (row_place j) (row_place j + 24)
  row = then w1 w3 w4 _ _ (then w1 w2 w3 _ _ (behind w1 _ _ _ _ low) (ahead w2 _ _ _ _ (omega arith))) (ahead w3 _ _ _ _ (omega arith))

  new : (hi : ℕ) → Kept w2 w4 16 hi
  new hi = then w2 w3 w4 _ _ (ahead w2 _ _ _ _ (omega arith)) (ahead w3 _ _ _ _ (omega arith))

  s1 : length w1 ≡ length m
  s1 = length-written m _ _

  s2 : length w2 ≡ length m
  s2 = length-written w1 _ _ ∙ s1

  s3 : length w3 ≡ length m
  s3 = length-written w2 _ _ ∙ s2

  whole : row_place j + 24 ≤ length m
  whole = omega (arith, low, so.used)

  -- numbers of the row fit their bytes
  wide : used_in m + length t < 2 ^ 32
  wide = omega (arith, ok.room, so.small)

  pub is_row : row_at w4 (row_place j) ≡ x
  is_row =
      let p : ℕ = row_place j in
      let a = byte_kept w1 w4 _ _ row p (omega arith) (omega arith) ∙ byte_place m p (row_bytes x) p 0 (omega arith) whole (omega arith) ∙ row_list x in
      let b = byte_kept w1 w4 _ _ row (p + 1) (omega arith) (omega arith) ∙ byte_place m p (row_bytes x) (p + 1) 1 refl whole (omega arith) ∙ row-kind x in
      let c = u16_kept w1 w4 _ _ row (p + 2) (omega arith) (omega arith) ∙ u16_place m p (row_bytes x) (p + 2) 2 refl whole (omega arith) ∙ row-key-length x ok.short in
      let d = u32_kept w1 w4 _ _ row (p + 4) (omega arith) (omega arith) ∙ u32_place m p (row_bytes x) (p + 4) 4 refl whole (omega arith) ∙ row-key-place x (omega (arith, ok.key, wide)) in
      let e = u32_kept w1 w4 _ _ row (p + 8) (omega arith) (omega arith) ∙ u32_place m p (row_bytes x) (p + 8) 8 refl whole (omega arith) ∙ row-value-length x (omega (arith, ok.value, wide)) in
      let f = u32_kept w1 w4 _ _ row (p + 12) (omega arith) (omega arith) ∙ u32_place m p (row_bytes x) (p + 12) 12 refl whole (omega arith) ∙ row-value-place x (omega (arith, ok.value, wide)) in
      let g = i64_kept w1 w4 _ _ row (p + 16) (omega arith) (omega arith) ∙ i64_place m p (row_bytes x) (p + 16) 16 refl whole (omega arith) ∙ row-time x ok.time in
      λ i. record { list = a i; kind = b i; key_length = c i; key_place = d i; value_length = e i; value_place = f i; time = g i }

  -- a part of the new text
  pub text_stands : (o k : ℕ) → o + k ≤ length t → portion w4 (offset_in m + (used_in m + o)) k ≡ portion t o k
  text_stands o k h = new (offset_in m + (used_in m + o) + k) _ _ (omega (arith, low)) (omega arith) ∙ portion-place w1 at t _ o (omega arith) (omega (arith, s1, ok.room)) k h

  pub rowed-step : Step m w4 j n (used_in m + length t)
  rowed-step =
      record {
        size = rowed-size;
        version = rowed-start;
        fixed = narrow m w4 _ _ _ _ rowed-fixed (omega arith) (omega arith);
        zeros = narrow m w4 _ _ _ _ rowed-front (omega arith) (omega arith);
        count = u16_kept w3 w4 0 12 (behind w3 _ _ _ _ (omega arith)) 2 (omega arith) (omega arith) ∙ u16_place w2 2 (bytes2 n) 2 0 (omega arith) (omega (arith, s2, whole)) (omega arith) ∙ two n (omega (arith, so.capacity, ok.most));
        used = u32_place w3 12 (bytes4 (used_in m + length t)) 12 0 (omega arith) (omega (arith, s3, whole)) (omega arith) ∙ four _ wide;
        grows = omega arith;
        most = ok.most;
        fit = ok.room;
        old = ok.old;
        others = λ i h ne.
            ⊎_elim
            (λ (lt : i < j). narrow m w4 _ _ _ _ rowed-front (omega arith) (omega arith))
            (λ (ge : j ≤ i). let z : j < i = grind arith in narrow m w4 _ _ _ _ rowed_upper (omega arith) (omega (arith, so.rows, so.offset)))
            (cases_lt i j);
        texts = narrow m w4 _ _ _ _ rowed_upper (omega (arith, ok.inside, so.offset)) (omega arith);
      }
