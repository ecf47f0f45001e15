-- Texts that are UTF-8: constants, digits, lower case, and what follows a prefix.
use Rattle.std.proofs.Common.{◌≡◌, ℕ, suc, ◌+◌, ◌%◌, ◌/◌, ◌<◌, ◌≤◌, Bool, true, ◌&&◌, nat_lt, List, [], ◌∷◌, ◌++◌, map, take, length, get_or, Some, None, Option, IsUtf8, inl, inr, refl, sym, ap, ap₂, subst, arith, append-nil, length-take, ltb-true}
use Rattle.std.specs.Char.{to_ascii_lowercase}
use Rattle.std.specs.List.{AllByRecursion, flat_map}
use Rattle.std.specs.Str.{bytes_eq}
use Rattle.std.proofs.lemmas.Bool.{and_parts, cases_lt, cond_both}
use Rattle.std.proofs.lemmas.Slice.Eq.{bytes_eq-Decides}
use Rattle.std.proofs.lemmas.Str.{IsUtf8-append, IsUtf8-nil, IsUtf8-encode, IsUtf8-drop, IsCharBoundary-from_take, encode_ascii, inside_one}
use Rattle.std.proofs.lemmas.Str.Ascii.{lowercase_ascii, lowercase_is}
use lib.Utf8.{scalar, scalars, encode, encodes, low_scalar}
use Rattle.lent_bytes.specs.Memory.{portion, rest}
use Rattle.lent_bytes.specs.Digits.{hex_digit, hex_pair}
use Rattle.readers.specs.Tables.{Pair, entry_for}
use Rattle.readers.specs.DatadogKeys.{begins}

-- ASCII
pub utf8-cons : (x : ℕ) (t : List ℕ) → x < 128 → IsUtf8 t → IsUtf8 (x ∷ t)
utf8-cons x t small u = IsUtf8-append (x ∷ []) t (subst IsUtf8 (encode_ascii x small) (IsUtf8-encode x (low_scalar x (omega arith)))) u

abbrev pub ascii : List ℕ → Bool
ascii [] = true
ascii (x ∷ t) = nat_lt x 128 && ascii t

-- a constant, whose bytes are computed
pub constant : (t : List ℕ) → ascii t ≡ true → IsUtf8 t
constant [] e = IsUtf8-nil
constant (x ∷ t) e = let p = and_parts _ _ e in utf8-cons x t (ltb-true _ _ p.0) (constant t p.1)

-- of a table of constants
abbrev pub ascii_into : List Pair → Bool
ascii_into [] = true
ascii_into (p ∷ ps) = ascii p.into && ascii_into ps

abbrev pub IfUtf8 : Option (List ℕ) → Type 0
IfUtf8 None = Unit {0}
IfUtf8 (Some t) = IsUtf8 t

pub entry-utf8 : (t : List ℕ) (ps : List Pair) → ascii_into ps ≡ true → IfUtf8 (entry_for t ps)
entry-utf8 t [] e = tt
entry-utf8 t (p ∷ ps) e =
    let q = and_parts (ascii p.into) _ e in
    cond_both (bytes_eq p.from t) (Some p.into) (entry_for t ps) IfUtf8 (λ h. constant p.into q.0) (λ h. entry-utf8 t ps q.1)

-- hex digits
hex-small : (d : ℕ) → d < 16 → hex_digit d < 128
hex-small d h = cond_both (nat_lt d 10) (48 + d) (87 + d) (λ x. x < 128) (λ t. omega arith) (λ f. omega arith)

pub hex-utf8 : (bs : List ℕ) → AllByRecursion (λ b. b < 256) bs → IsUtf8 (flat_map hex_pair bs)
hex-utf8 [] h = IsUtf8-nil
hex-utf8 (b ∷ bs) h =
    let s = h.0 in
    utf8-cons (hex_digit (b / 16)) _ (hex-small (b / 16) (omega arith)) (utf8-cons (hex_digit (b % 16)) _ (hex-small (b % 16) (omega arith)) (hex-utf8 bs h.1))

-- lower case
abbrev lowered : List ℕ → List ℕ
lowered t = map to_ascii_lowercase t

lowered-append : (xs ys : List ℕ) → lowered (xs ++ ys) ≡ lowered xs ++ lowered ys
lowered-append [] ys = refl
lowered-append (x ∷ xs) ys = ap (λ l. to_ascii_lowercase x ∷ l) (lowered-append xs ys)

lowered-high : (xs : List ℕ) → ((k : ℕ) → k < length xs → 128 ≤ get_or xs k 0) → lowered xs ≡ xs
lowered-high [] h = refl
lowered-high (x ∷ xs) h =
    let high : 128 ≤ x = h 0 (omega arith) in
    ap₂ (λ (a : ℕ) (b : List ℕ). a ∷ b) ((lowercase_is x).2 (omega arith)) (lowered-high xs (λ k below. h (suc k) (omega arith)))

one-lowered : (c : ℕ) → scalar c ≡ true → IsUtf8 (lowered (encode c))
one-lowered c ok = elim (cases_lt c 128) [
  | inl small ↦ rw (encode_ascii c small) (utf8-cons (to_ascii_lowercase c) [] (lowercase_ascii c small) IsUtf8-nil)
  | inr big ↦
      let high : (k : ℕ) → k < length (encode c) → 128 ≤ get_or (encode c) k 0 = λ k below. elim (cases_lt (get_or (encode c) k 0) 128) [
        | inl low ↦ absurd (omega (arith, inside_one c [] (encode c) k (sym (append-nil _)) below low))
        | inr h ↦ h
      ] in
      subst IsUtf8 (sym (lowered-high (encode c) high)) (IsUtf8-encode c ok)
]

all-lowered : (cs : List ℕ) → scalars cs ≡ true → IsUtf8 (lowered (encodes cs))
all-lowered [] e = IsUtf8-nil
all-lowered (c ∷ cs) e =
    let p = and_parts _ _ e in
    subst IsUtf8 (sym (lowered-append (encode c) (encodes cs))) (IsUtf8-append _ _ (one-lowered c p.0) (all-lowered cs p.1))

pub lowered-utf8 : (t : List ℕ) → IsUtf8 t → IsUtf8 (map to_ascii_lowercase t)
lowered-utf8 t u = subst (λ l. IsUtf8 (lowered l)) u.1.1 (all-lowered u.0 u.1.0)

-- what follows a prefix
pub rest-utf8 : (p k : List ℕ) → begins p k ≡ true → IsUtf8 p → IsUtf8 k → IsUtf8 (rest k (length p))
unfolding portion rest
rest-utf8 p k e u v =
    let s : take (length p) k ≡ p = (bytes_eq-Decides (take (length p) k) p).0 e in
    let l = length-take (length p) k in
    let q : length (take (length p) k) ≡ length p = ap length s in
    IsUtf8-drop k (length p) v (IsCharBoundary-from_take k (length p) v (omega arith) (subst IsUtf8 (sym s) u))
