-- A sum of lengths as the header holds it.
use Rattle.std.proofs.Common.{◌≡◌, ℕ, ◌/◌, ◌%◌, arith}
use Rattle.lent_bytes.specs.Fields.{bytes4}

-- four bytes hold of a sum what they hold of the sum in a machine's word
pub four-wraps : (n : ℕ) → bytes4 (n % 18446744073709551616) ≡ bytes4 n
four-wraps n =
    let a : n % 18446744073709551616 % 256 ≡ n % 256 = omega arith in
    let b : n % 18446744073709551616 / 256 % 256 ≡ n / 256 % 256 = omega arith in
    let c : n % 18446744073709551616 / 65536 % 256 ≡ n / 65536 % 256 = omega arith in
    let d : n % 18446744073709551616 / 16777216 % 256 ≡ n / 16777216 % 256 = omega arith in
    rw (a, b, c, d)
