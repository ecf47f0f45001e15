-- Numbers and their bytes, from the bytes: what is read, written again, is what was there.
use Rattle.std.proofs.Common.{◌≡◌, ℕ, ◌+◌, ◌*◌, ◌/◌, ◌%◌, ◌^◌, ◌<◌, List, [], ◌∷◌, ◌++◌, length, get_or, sym, refl, ap, ◌∙◌, arith, take-append-drop}
use native.Mathlib.Nat.{div-div-eq-div-mul}
use Rattle.std.proofs.lemmas.List.{drop_all, places}
use Rattle.lent_bytes.specs.Fields.{le2, le8, bytes2, bytes8}
use Rattle.lent_bytes.specs.Memory.{Bytes, portion, rest}
use Rattle.lent_bytes.proofs.Chunks.{drop-two, drop-eight}

-- the lowest digit, and the digits above it
low : (x w v : ℕ) → x < 256 → v ≡ x + w * 256 → (v % 256 ≡ x) × (v / 256 ≡ w)
low x w v h e = (omega arith, omega arith)

-- one place further up
up : (v c w x : ℕ) → v / c ≡ w → w / 256 ≡ x → v / (c * 256) ≡ x
up v c w x e f = sym (div-div-eq-div-mul v c 256) ∙ ap (λ n. n / 256) e ∙ f

two : (a b : ℕ) → a < 256 → b < 256 → bytes2 (a + b * 256) ≡ a ∷ b ∷ []
two a b ha hb =
    let p = low a b (a + b * 256) ha refl in
    let q : b % 256 ≡ b = omega arith in
    rw (p.1, p.0, q)

eight : (a b c d e f g h : ℕ) → a < 256 → b < 256 → c < 256 → d < 256 → e < 256 → f < 256 → g < 256 → h < 256
    → bytes8 (a + b * 256 + c * 65536 + d * 16777216 + e * 4294967296 + f * 1099511627776 + g * 281474976710656 + h * 72057594037927936) ≡ a ∷ b ∷ c ∷ d ∷ e ∷ f ∷ g ∷ h ∷ []
eight a b c d e f g h ha hb hc hd he hf hg hh =
    let v : ℕ = a + b * 256 + c * 65536 + d * 16777216 + e * 4294967296 + f * 1099511627776 + g * 281474976710656 + h * 72057594037927936 in
    let v6 : ℕ = g + h * 256 in
    let v5 : ℕ = f + v6 * 256 in
    let v4 : ℕ = e + v5 * 256 in
    let v3 : ℕ = d + v4 * 256 in
    let v2 : ℕ = c + v3 * 256 in
    let v1 : ℕ = b + v2 * 256 in
    let p0 = low a v1 v ha (omega arith) in
    let p1 = low b v2 v1 hb refl in
    let p2 = low c v3 v2 hc refl in
    let p3 = low d v4 v3 hd refl in
    let p4 = low e v5 v4 he refl in
    let p5 = low f v6 v5 hf refl in
    let p6 = low g h v6 hg refl in
    let p7 : h % 256 ≡ h = omega arith in
    let u1 : v / 256 ≡ v1 = p0.1 in
    let u2 : v / 65536 ≡ v2 = up v 256 v1 v2 u1 p1.1 in
    let u3 : v / 16777216 ≡ v3 = up v 65536 v2 v3 u2 p2.1 in
    let u4 : v / 4294967296 ≡ v4 = up v 16777216 v3 v4 u3 p3.1 in
    let u5 : v / 1099511627776 ≡ v5 = up v 4294967296 v4 v5 u4 p4.1 in
    let u6 : v / 281474976710656 ≡ v6 = up v 1099511627776 v5 v6 u5 p5.1 in
    let u7 : v / 72057594037927936 ≡ h = up v 281474976710656 v6 h u6 p6.1 in
    cc

pub bytes2-le2 : (x : List ℕ) → length x ≡ 2 → Bytes x → bytes2 (le2 x) ≡ x
bytes2-le2 x l h =
    let e = drop-two x 0 (omega arith) in
    let n = drop_all 2 x (omega arith) in
    two (get_or x 0 0) (get_or x 1 0) (h 0) (h 1) ∙ sym (e ∙ ap (λ r. get_or x 0 0 ∷ get_or x 1 0 ∷ r) n)

pub bytes8-le8 : (x : List ℕ) → length x ≡ 8 → Bytes x → bytes8 (le8 x) ≡ x
bytes8-le8 x l h =
    let e = drop-eight x 0 (omega arith) in
    let n = drop_all 8 x (omega arith) in
    eight (get_or x 0 0) (get_or x 1 0) (get_or x 2 0) (get_or x 3 0) (get_or x 4 0) (get_or x 5 0) (get_or x 6 0) (get_or x 7 0) (h 0) (h 1) (h 2) (h 3) (h 4) (h 5) (h 6) (h 7)
    ∙ sym (e ∙ ap (λ r. get_or x 0 0 ∷ get_or x 1 0 ∷ get_or x 2 0 ∷ get_or x 3 0 ∷ get_or x 4 0 ∷ get_or x 5 0 ∷ get_or x 6 0 ∷ get_or x 7 0 ∷ r) n)

-- a number of bytes fits them
pub le2-fits : (x : List ℕ) → Bytes x → le2 x < 2 ^ 16
le2-fits x h = let a = h 0 in let b = h 1 in omega arith

pub le8-fits : (x : List ℕ) → Bytes x → le8 x < 2 ^ 64
le8-fits x h =
    let a = h 0 in let b = h 1 in let c = h 2 in let d = h 3 in let e = h 4 in let f = h 5 in let g = h 6 in let i = h 7 in omega arith

-- the bytes of parts are bytes
pub bytes-portion : (m : List ℕ) (at n : ℕ) → Bytes m → Bytes (portion m at n)
unfolding portion
bytes-portion m at n h i = let a = h (at + i) in grind (arith, places)

pub bytes_rest : (m : List ℕ) (n : ℕ) → Bytes m → Bytes (rest m n)
unfolding rest
bytes_rest m n h i = let a = h (n + i) in grind (arith, places)

-- a list is its front and the rest
pub front_rest : (m : List ℕ) (n : ℕ) → portion m 0 n ++ rest m n ≡ m
unfolding portion rest
front_rest m n = take-append-drop n m
