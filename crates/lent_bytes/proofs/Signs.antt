use Rattle.std.proofs.Common.{◌≡◌, ℕ, ◌*◌, List, [], ◌∷◌, length, ℤ, pos, negsuc, nat_abs, ◌≤ℤ◌, ◌<ℤ◌, decimal, refl, arith}
use Rattle.std.specs.List.{flat_map}
use Rattle.lent_bytes.specs.Digits.{hex_pair}
use Rattle.std.proofs.lemmas.Int.{ints}
use Rattle.std.specs.Fmt.{signed_decimal}

pub signed_negative : (z : ℤ) → z <ℤ pos 0 → signed_decimal z ≡ 45 ∷ decimal (nat_abs z)
signed_negative (pos n) h = absurd (omega (arith, ints))
signed_negative (negsuc n) h = refl

pub signed_positive : (z : ℤ) → pos 0 ≤ℤ z → signed_decimal z ≡ decimal (nat_abs z)
signed_positive (pos n) h = refl
signed_positive (negsuc n) h = absurd (omega (arith, ints))

-- two digits for each byte
pub length_hex : (bs : List ℕ) → length (flat_map hex_pair bs) ≡ 2 * length bs
length_hex [] = refl
length_hex (b ∷ bs) = let h = length_hex bs in omega arith
