-- What a write leaves as it was, and what can be read back.
use Rattle.std.proofs.Common.{◌≡◌, ℕ, ◌+◌, ◌-◌, ◌*◌, ◌/◌, ◌%◌, ◌^◌, ◌<◌, ◌≤◌, List, [], ◌++◌, length, get_or, ℤ, sym, ap, ◌∙◌, arith, length-drop, length-take, w64, SFits, to_z, of_z, rules}
use native.Mathlib.Nat.{div-div-eq-div-mul}
use Rattle.std.proofs.lemmas.List.{places, same_lists}
use Rattle.std.proofs.lemmas.Nat.{div-add-mod'}
use mir.ValLaws.{to_z-of_z, of_z_fits}
use Rattle.lent_bytes.specs.Memory.{portion, rest, written}
use Rattle.lent_bytes.specs.Fields.{le2, le4, le8, int8, bytes2, bytes4, bytes8, ints8}

-- how long parts are
pub length-portion : (m : List ℕ) (at n : ℕ) → at + n ≤ length m → length (portion m at n) ≡ n
unfolding portion
length-portion m at n h = simp (length-take, length-drop) (omega arith)

pub length_rest : (m : List ℕ) (n : ℕ) → length (rest m n) ≡ length m - n
unfolding rest
length_rest m n = length-drop n m

module _ (m : List ℕ) (at : ℕ) (s : List ℕ) where
  pub length-written : length (written m at s) ≡ length m
  unfolding written
  length-written = search (rules, places)

  -- a part that ends before the written one begins
  pub portion_before : (a n : ℕ) → a + n ≤ at → portion (written m at s) a n ≡ portion m a n
  unfolding portion written
  portion_before a n h = same_lists _ _ (search (rules, places)) (λ k d l. grind (arith, places))

  -- a part that begins where the written one ends, or after
  pub portion-after : (a n : ℕ) → at + length s ≤ a → portion (written m at s) a n ≡ portion m a n
  unfolding portion written
  portion-after a n h = same_lists _ _ (search (rules, places)) (λ k d l. grind (arith, places))

  -- a part of what was written
  pub portion-within : (a n : ℕ) → at ≤ a → a + n ≤ at + length s → at + length s ≤ length m → portion (written m at s) a n ≡ portion s (a - at) n
  unfolding portion written
  portion-within a n g h f = same_lists _ _ (search (rules, places)) (λ k d l. grind (arith, places))

  -- all that was written
  pub portion-written : (n : ℕ) → n ≡ length s → at + n ≤ length m → portion (written m at s) at n ≡ s
  unfolding portion written
  portion-written n e f = same_lists _ _ (search (rules, places)) (λ k d l. grind (arith, places))

  -- each byte
  pub get_or_before : (k d : ℕ) → k < at → get_or (written m at s) k d ≡ get_or m k d
  unfolding written
  get_or_before k d h = grind (arith, places)

  pub get_or-after : (k d : ℕ) → at + length s ≤ k → get_or (written m at s) k d ≡ get_or m k d
  unfolding written
  get_or-after k d h = grind (arith, places)

  pub get_or-within : (k d : ℕ) → at ≤ k → k < at + length s → k < length m → get_or (written m at s) k d ≡ get_or s (k - at) d
  unfolding written
  get_or-within k d h g l = grind (arith, places)

  -- a write over another, as long or longer
  pub written_over : (t : List ℕ) → length s ≤ length t → written (written m at s) at t ≡ written m at t
  unfolding written
  written_over t h = same_lists _ _ (search (rules, places)) (λ k d l. grind (arith, places))

  -- a write past the end changes nothing
  pub written-past : length m ≤ at → written m at s ≡ m
  unfolding written
  written-past h = same_lists _ _ (search (rules, places)) (λ k d l. grind (arith, places))

pub written_none : (m : List ℕ) (at : ℕ) → written m at [] ≡ m
unfolding written
written_none m at = same_lists _ _ (search (rules, places)) (λ k d l. grind (arith, places))

-- a byte after writes that stay shut
ruleset spots = (arith, length-written, get_or_before, get_or-after, get_or-within)

module _ (m : List ℕ) (at : ℕ) (s t : List ℕ) where
  -- one write behind another is one write
  pub written_append : written (written m at s) (at + length s) t ≡ written m at (s ++ t)
  written_append = same_lists _ _ (search (rules, length-written)) (λ k d l. grind (spots, places))

  -- writes apart may change places
  pub written_apart : (b : ℕ) → at + length s ≤ b → written (written m at s) b t ≡ written (written m b t) at s
  written_apart b h = same_lists _ _ (search (rules, length-written)) (λ k d l. grind spots)

-- the digit of v at the place c
digit : (v c : ℕ) → v / c ≡ v / (c * 256) * 256 + v / c % 256
digit v c = rw (← div-div-eq-div-mul v c 256) (sym (div-add-mod' (v / c) 256))

pub le2-bytes2 : (v : ℕ) → v < 2 ^ 16 → le2 (bytes2 v) ≡ v
le2-bytes2 v h = omega arith

pub le4-bytes4 : (v : ℕ) → v < 2 ^ 32 → le4 (bytes4 v) ≡ v
le4-bytes4 v h = omega (arith, digit v 256, digit v 65536, digit v 16777216)

-- eight digits, one after another
horner : (q a b c d e f g i j k l m n o p : ℕ) → q ≡ a * 256 + i → a ≡ b * 256 + j → b ≡ c * 256 + k → c ≡ d * 256 + l → d ≡ e * 256 + m → e ≡ f * 256 + n → f ≡ g * 256 + o → g ≡ 0 * 256 + p
    → i + j * 256 + k * 65536 + l * 16777216 + m * 4294967296 + n * 1099511627776 + o * 281474976710656 + p * 72057594037927936 ≡ q
horner q a b c d e f g i j k l m n o p q0 q1 q2 q3 q4 q5 q6 q7 = omega arith

pub le8-bytes8 : (v : ℕ) → v < 2 ^ 64 → le8 (bytes8 v) ≡ v
le8-bytes8 v h = horner v _ _ _ _ _ _ _ _ _ _ _ _ _ _ _ (sym (div-add-mod' v 256)) (digit v 256) (digit v 65536) (digit v 16777216) (digit v 4294967296) (digit v 1099511627776) (digit v 281474976710656) (omega arith)

pub int8-ints8 : (v : ℤ) → SFits w64 v → int8 (ints8 v) ≡ v
int8-ints8 v h = ap (to_z w64) (le8-bytes8 (of_z w64 v) (of_z_fits w64 v h).fits) ∙ to_z-of_z w64 v h

-- for `search (rules, frames)`
pub ruleset frames = (length-written, portion_before, portion-after, portion-within, portion-written, le2-bytes2, le4-bytes4, le8-bytes8)
