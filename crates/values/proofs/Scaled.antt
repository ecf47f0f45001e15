-- Fractions that are equal are whole alike.
use Rattle.std.proofs.Common.{◌≡◌, ℕ, zero, suc, ◌+◌, ◌-◌, ◌*◌, ◌/◌, ◌%◌, ◌^◌, ◌<◌, ◌≤◌, Bool, true, false, cond, not, T, eqb, ltb, leb, ◌≢◌, ℤ, pos, negsuc, nat_abs, Some, None, Option, sym, refl, ap, ◌∙◌, ⊎_elim, add-zero, mul-le-mul_right, mod-eq_of_lt, mul_assoc, mul_comm, div-add-mod', mul_right_comm, div-one, mul-div_cancel, arith, pow_pos, pow_mono, pow-add}
use native.Mathlib.Nat.{mul-mod_left, eq_of_mul-eq-mul_right, mod-one}
use lib.Ieee.{Float, nan, inf, fin, Format, binary64, up, down, is_nan, odd, units, low, prec, emax, round, of_int, of_fields, of_bits}
use lib.Ieee.Exact.{HasValue, odd_sign}
use lib.Ieee.Fits.{down_pos}
use lib.Ieee.Nearest.{div_same}
use Rattle.std.proofs.lemmas.Bool.Decides.{nat_tests}
use Rattle.std.proofs.lemmas.Bool.{cond_both, ne_eqb, lt-leb, eqb-true, cases_Bool}
use Rattle.values.specs.Doubles.{divided, ranged, whole_of, small, signed_of, significand, Is, WholeExactly}

whole_too : (a b c d : ℕ) → 0 < b → 0 < d → a * d ≡ c * b → a % b ≡ 0 → c % d ≡ 0
whole_too a b c d hb hd e z =
    let n : ℕ = a / b in
    let whole : a ≡ n * b = sym (div-add-mod' a b) ∙ rw z (add-zero (n * b)) in
    let scaled : n * d * b ≡ c * b = mul_right_comm n d b ∙ (rw whole at e) in
    rw (← eq_of_mul-eq-mul_right b hb (n * d) c scaled) (mul-mod_left n d)

pub divided-same : {X : Type 0} (f : ℕ → Option X) (a b c d : ℕ) → 0 < b → 0 < d → a * d ≡ c * b → divided f a b ≡ divided f c d
divided-same f a b c d hb hd e =
    let q : a / b ≡ c / d = div_same a b c d hb hd e in
    let to : a % b ≡ 0 → c % d ≡ 0 = whole_too a b c d hb hd e in
    let fro : c % d ≡ 0 → a % b ≡ 0 = whole_too c d a b hd hb (sym e) in
    let t : eqb (a % b) 0 ≡ eqb (c % d) 0 = grind (arith, nat_tests) in
    cc

pub whole_of-value : (v : Float) (s : Bool) (a c : ℕ) → 0 < c → HasValue v s a c → whole_of v ≡ divided (ranged s) a c
whole_of-value nan s a c p h = absurd h
whole_of-value (inf t) s a c p h = absurd h
whole_of-value (fin t m e) s a c p h = ap (λ (u : Bool). divided (ranged u) (m * up e) (down e)) h.0 ∙ divided-same (ranged s) (m * up e) (down e) a c (down_pos e) p h.1

odd_number : (d : ℕ) (s : Bool) (q k l : ℕ) → T (not (is_nan (odd d s q k l)))
unfolding odd is_nan
odd_number d s zero k l = tt
odd_number d s (suc q) k l = tt

cond-number : (b : Bool) (x y : Float) → T (not (is_nan x)) → T (not (is_nan y)) → T (not (is_nan (cond b x y)))
cond-number true x y p q = p
cond-number false x y p q = q

units_number : (f : Format) (s : Bool) (q k : ℕ) → T (not (is_nan (units f s q k)))
unfolding units is_nan
units_number f s q k = cond-number (ltb (q * 2 ^ k) (2 ^ (low f + suc (emax f)))) (odd (suc (prec f)) s q k (low f)) (inf s) (odd_number (suc (prec f)) s q k (low f)) tt

pub of_int-number : (f : Format) (z : ℤ) → T (not (is_nan (of_int f z)))
unfolding of_int round
of_int-number f (pos n) = units_number f false _ _
of_int-number f (negsuc n) = units_number f true _ _

-- q * 2^k / 2^l, where k is l or more, and where it is less
pub above : {X : Type 0} (f : ℕ → Option X) (q k l e : ℕ) → k ≡ e + l → divided f (q * 2 ^ k) (2 ^ l) ≡ f (q * 2 ^ e)
above f q k l e h =
    let p : 0 < 2 ^ l = pow_pos l in
    rw (h, pow-add, ← mul_assoc, mul-mod_left, mul-div_cancel (q * 2 ^ e) p)

pub below : {X : Type 0} (f : ℕ → Option X) (q k l e : ℕ) → l ≡ e + k → divided f (q * 2 ^ k) (2 ^ l) ≡ divided f q (2 ^ e)
below f q k l e h = divided-same f (q * 2 ^ k) (2 ^ l) q (2 ^ e) (pow_pos l) (pow_pos e) (rw (h, pow-add 2 e k) (mul_assoc q (2 ^ k) (2 ^ e) ∙ ap (λ n. q * n) (mul_comm (2 ^ k) (2 ^ e))))

-- by the magnitude, and then the sign
pub by_magnitude : (s : Bool) (a d : ℕ) → divided (ranged s) a d ≡ signed_of s (divided small a d)
by_magnitude true a d = grind (arith, nat_tests)
by_magnitude false a d = grind (arith, nat_tests)

pub fields : (s : Bool) (x t : ℕ) → x ≢ 2047 → whole_of (of_fields binary64 s x t) ≡ divided (ranged s) (significand x t * 2 ^ (x - 1)) (2 ^ 1074)
unfolding of_fields
fields s zero t h = whole_of-value (odd 53 s t 0 1074) s (t * 2 ^ 0) (2 ^ 1074) (pow_pos 1074) (odd_sign 53 s t 0 1074)
fields s (suc x) t h =
    let k : suc x - 1 ≡ x = omega arith in
    let z : suc x ≡ 0 → ⊥ = λ e. omega arith in
    rw (ne_eqb (suc x) 2047 h, ne_eqb (suc x) 0 z, k) (whole_of-value (odd 53 s (2 ^ 52 + t) x 1074) s ((2 ^ 52 + t) * 2 ^ x) (2 ^ 1074) (pow_pos 1074) (odd_sign 53 s (2 ^ 52 + t) x 1074))

pub fields_top : (s : Bool) (t : ℕ) → whole_of (of_fields binary64 s 2047 t) ≡ None
unfolding of_fields
fields_top s t = cond_both (eqb t 0) (inf s) nan (λ v. whole_of v ≡ None) (λ _. refl) (λ _. refl)

-- out of range
pub small-none : (q e : ℕ) → 0 < q → 63 < e → small (q * 2 ^ e) ≡ None
small-none q e hq he =
    let big : 2 ^ 64 ≤ 2 ^ e = pow_mono {i = 64} {j = e} he in
    let more : 1 * 2 ^ e ≤ q * 2 ^ e = mul-le-mul_right (2 ^ e) hq in
    let far : 2 ^ 63 < q * 2 ^ e = omega arith in
    rw (lt-leb (q * 2 ^ e) (2 ^ 63) far)

pub fraction_none : (q e : ℕ) → 0 < q → q < 2 ^ 64 → 63 < e → divided small q (2 ^ e) ≡ None
fraction_none q e hq hw he =
    let big : 2 ^ 64 ≤ 2 ^ e = pow_mono {i = 64} {j = e} he in
    let lt : q < 2 ^ e = omega arith in
    let z : q ≡ 0 → ⊥ = λ e. omega arith in
    rw (mod-eq_of_lt lt, ne_eqb q 0 z)

pub bits : (p x : ℕ) → p % 2 ^ 63 / 2 ^ 52 ≡ x → x ≢ 2047 → whole_of (of_bits binary64 p) ≡ signed_of (leb (2 ^ 63) p) (divided small (significand x (p % 2 ^ 52) * 2 ^ (x - 1)) (2 ^ 1074))
unfolding of_bits
bits p x e h = rw e (fields (leb (2 ^ 63) p) x (p % 2 ^ 52) h) ∙ by_magnitude (leb (2 ^ 63) p) (significand x (p % 2 ^ 52) * 2 ^ (x - 1)) (2 ^ 1074)

pub bits_top : (p : ℕ) → p % 2 ^ 63 / 2 ^ 52 ≡ 2047 → whole_of (of_bits binary64 p) ≡ None
unfolding of_bits
bits_top p e = rw e (fields_top (leb (2 ^ 63) p) (p % 2 ^ 52))

-- `whole_of` in terms of the value that lib.Ieee gives a float
pub whole_when : (v : Float) (s : Bool) (n : ℕ) → HasValue v s n 1 → whole_of v ≡ ranged s n
whole_when v s n h = whole_of-value v s n 1 (omega arith) h ∙ rw (mod-one, div-one)

parts : (f : ℕ → Option ℤ) (a d : ℕ) (z : ℤ) → divided f a d ≡ Some z → (a % d ≡ 0) × (f (a / d) ≡ Some z)
parts f a d z h =
    ⊎_elim
    (λ t. (eqb-true (a % d) 0 t, rw t at h))
    (λ n. let x : None ≡ Some z = rw n at h in let y : ◌≡◌ {A = ℕ} 0 1 = cc in absurd (omega arith))
    (cases_Bool (eqb (a % d) 0))

ranged_abs : (s : Bool) (n : ℕ) (z : ℤ) → ranged s n ≡ Some z → nat_abs z ≡ n
ranged_abs true zero z h = cc
ranged_abs true (suc n) z h = grind (arith, nat_tests)
ranged_abs false n z h = grind (arith, nat_tests)

whole_only : (v : Float) (z : ℤ) → whole_of v ≡ Some z → Is v z
whole_only nan z h = let y : ◌≡◌ {A = ℕ} 0 1 = cc in absurd (omega arith)
whole_only (inf s) z h = let y : ◌≡◌ {A = ℕ} 0 1 = cc in absurd (omega arith)
whole_only (fin s m e) z h =
    let p = parts (ranged s) (m * up e) (down e) z h in
    let n = ranged_abs s (m * up e / down e) z p.1 in
    let w = div-add-mod' (m * up e) (down e) in
    let o = p.0 in
    (s, ((refl, rw n (omega arith)), rw n p.1))

pub whole_exactly_lem : WholeExactly
whole_exactly_lem v z = (whole_only v z, λ h. whole_when v h.0 (nat_abs z) h.1.0 ∙ h.1.1)
