-- What a written text or number of the header leaves.
use Rattle.std.proofs.Common.{◌≡◌, ℕ, ◌+◌, ◌^◌, ◌<◌, ◌≤◌, ◌⊎◌, List, ◌++◌, length, refl, ◌∙◌, ⊎_elim, arith}
use Rattle.lent_bytes.specs.Memory.{portion, written}
use Rattle.lent_bytes.specs.Fields.{u32_in, bytes4}
use Rattle.lent_bytes.proofs.Frames.{length-written, le4-bytes4}
use Rattle.blocks.specs.Layout.{rows_in, offset_in, capacity_in, used_in, place_in, length_in}
use Rattle.drafts.specs.Writes.{headed}
use Rattle.block_laws.proofs.Kept.{Kept, u16_kept, u32_kept, portion-place, u32_place, behind, ahead, then, narrow, portion-whole}
use Rattle.block_laws.proofs.Sound.{Sound, Step, Head}
use Rattle.draft_law.proofs.Rowed.{four}

-- a place and a length
pub pair_place : (x y : ℕ) → x < 2 ^ 32 → u32_in (bytes4 x ++ bytes4 y) 0 ≡ x
unfolding portion
pair_place x y h = le4-bytes4 x h

pub pair-length : (x y : ℕ) → y < 2 ^ 32 → u32_in (bytes4 x ++ bytes4 y) 4 ≡ y
unfolding portion
pair-length x y h = le4-bytes4 y h

-- a text of the header, at h
module _ (m : List ℕ) (so : Sound m) (h : ℕ) (hd : Head h) (t : List ℕ) (room : offset_in m + (used_in m + length t) ≤ length m) where
  abbrev at : ℕ
  at = offset_in m + used_in m

  abbrev pair : List ℕ
  pair = bytes4 (used_in m) ++ bytes4 (length t)

  abbrev y1 : List ℕ
  y1 = written m at t

  abbrev y2 : List ℕ
  y2 = written y1 h pair

  abbrev y3 : List ℕ
  y3 = headed m h t

  low : 120 ≤ at
  low = omega (arith, so.offset)

  wide : used_in m + length t < 2 ^ 32
  wide = omega (arith, room, so.small)

  t1 : length y1 ≡ length m
  t1 = length-written m _ _

  t2 : length y2 ≡ length m
  t2 = length-written y1 _ _ ∙ t1

  pub headed-start : Kept m y3 0 12
  headed-start = then m y2 y3 _ _ (then m y1 y2 _ _ (behind m _ _ _ _ (omega (arith, low))) (behind y1 _ _ _ _ (omega (arith, hd.0)))) (behind y2 _ _ _ _ (omega arith))

  pub headed-front : Kept m y3 16 h
  headed-front = then m y2 y3 _ _ (then m y1 y2 _ _ (behind m _ _ _ _ (omega (arith, low, hd.1.0))) (behind y1 _ _ _ _ (omega arith))) (ahead y2 _ _ _ _ (omega arith))

  pub headed-behind : Kept m y3 (h + 8) at
  headed-behind = then m y2 y3 _ _ (then m y1 y2 _ _ (behind m _ _ _ _ (omega arith)) (ahead y1 _ _ _ _ (omega arith))) (ahead y2 _ _ _ _ (omega (arith, hd.0)))

  pub has_place : place_in y3 h ≡ used_in m
  has_place = u32_kept y2 y3 16 120 (ahead y2 _ _ _ _ (omega arith)) h (omega (arith, hd.0)) (omega (arith, hd.1.0)) ∙ u32_place y1 h pair h 0 (omega arith) (omega (arith, t1, low, so.used, hd.1.0)) (omega arith) ∙ pair_place (used_in m) _ (omega (arith, wide))

  pub has_length : length_in y3 h ≡ length t
  has_length = u32_kept y2 y3 16 120 (ahead y2 _ _ _ _ (omega arith)) (h + 4) (omega (arith, hd.0)) (omega (arith, hd.1.0)) ∙ u32_place y1 h pair (h + 4) 4 refl (omega (arith, t1, low, so.used, hd.1.0)) (omega arith) ∙ pair-length (used_in m) _ (omega (arith, wide))

  pub has_text : portion y3 at (length t) ≡ t
  has_text = then y1 y2 y3 120 (at + length t) (ahead y1 _ _ _ _ (omega (arith, hd.1.0))) (ahead y2 _ _ _ _ (omega arith)) _ _ low (omega arith) ∙ portion-place m at t at 0 (omega arith) (omega (arith, room)) (length t) (omega arith) ∙ portion-whole t

  pub headed-step : Step m y3 (capacity_in m) (rows_in m) (used_in m + length t)
  headed-step =
      record {
        size = length-written y2 _ _ ∙ t2;
        version = narrow m y3 _ _ _ _ headed-start (omega arith) (omega arith);
        fixed = narrow m y3 _ _ _ _ headed-start (omega arith) (omega arith);
        zeros = narrow m y3 _ _ _ _ headed-front (omega arith) (omega (arith, hd.0));
        count = u16_kept m y3 _ _ headed-start 2 (omega arith) (omega arith);
        used = u32_place y2 12 (bytes4 (used_in m + length t)) 12 0 (omega arith) (omega (arith, t2, low, so.used)) (omega arith) ∙ four _ wide;
        grows = omega arith;
        most = so.rows;
        fit = room;
        old = λ i l ne. l;
        others = λ i l ne. narrow m y3 _ _ _ _ headed-behind (omega (arith, hd.1.0)) (omega (arith, so.rows, so.offset));
        texts = narrow m y3 _ _ _ _ headed-behind (omega (arith, hd.1.0, so.offset)) (omega arith);
      }

-- a number of the header, away from the number of rows, the text used, and what never changes
module _ (m : List ℕ) (so : Sound m) (at : ℕ) (s : List ℕ) where
  abbrev z : List ℕ
  z = written m at s

  -- the status
  pub status-step : at ≡ 11 → length s ≡ 1 → Step m z (capacity_in m) (rows_in m) (used_in m)
  status-step e l =
      record {
        size = length-written m _ _;
        version = behind m _ _ _ _ (omega arith);
        fixed = behind m _ _ _ _ (omega arith);
        zeros = ahead m _ _ _ _ (omega arith);
        count = u16_kept m z 0 11 (behind m _ _ _ _ (omega arith)) 2 (omega arith) (omega arith);
        used = u32_kept m z 12 16 (ahead m _ _ _ _ (omega arith)) 12 (omega arith) (omega arith);
        grows = omega arith;
        most = so.rows;
        fit = so.used;
        old = λ i h ne. h;
        others = λ i h ne. ahead m _ _ _ _ (omega arith);
        texts = ahead m _ _ _ _ (omega (arith, so.offset));
      }

  -- behind the text used, but for the three zeros
  pub flat_step : 16 ≤ at → at + length s ≤ 120 → (at + length s ≤ 77) ⊎ (80 ≤ at) → Step m z (capacity_in m) (rows_in m) (used_in m)
  flat_step low high away =
      record {
        size = length-written m _ _;
        version = behind m _ _ _ _ (omega arith);
        fixed = behind m _ _ _ _ (omega arith);
        zeros = ⊎_elim (λ (b : at + length s ≤ 77). ahead m at s 77 80 (omega arith)) (λ (a : 80 ≤ at). behind m at s 77 80 (omega arith)) away;
        count = u16_kept m z 0 16 (behind m _ _ _ _ (omega arith)) 2 (omega arith) (omega arith);
        used = u32_kept m z 0 16 (behind m _ _ _ _ (omega arith)) 12 (omega arith) (omega arith);
        grows = omega arith;
        most = so.rows;
        fit = so.used;
        old = λ i h ne. h;
        others = λ i h ne. ahead m _ _ _ _ (omega arith);
        texts = ahead m _ _ _ _ (omega (arith, so.offset));
      }
