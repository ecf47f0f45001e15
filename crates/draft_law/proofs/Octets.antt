-- What is written of bytes is bytes.
use Rattle.std.proofs.Common.{◌≡◌, ℕ, zero, suc, ◌+◌, ◌-◌, ◌%◌, ◌<◌, ◌≤◌, List, [], ◌∷◌, ◌++◌, length, get_or, ⊎_elim, arith}
use Rattle.std.proofs.lemmas.Bool.{cases_lt}
use Rattle.std.proofs.lemmas.List.{get_or_past, get_or-replicate, length-replicate}
use Rattle.lent_bytes.specs.Memory.{Bytes, written}
use Rattle.lent_bytes.specs.Fields.{bytes2, bytes4, bytes8}
use Rattle.lent_bytes.proofs.Frames.{length-written, get_or_before, get_or-after, get_or-within}
use Rattle.blocks.specs.Layout.{Row}
use Rattle.drafts.specs.Writes.{row_bytes}
use Rattle.drafts.specs.Code.{zeros}

-- byte by byte
abbrev pub Octets : List ℕ → Type 0
Octets [] = Unit {0}
Octets (x ∷ xs) = (x < 256) × Octets xs

pub bytes_of : (xs : List ℕ) → Octets xs → Bytes xs
bytes_of [] h i = omega arith
bytes_of (x ∷ xs) h zero = h.0
bytes_of (x ∷ xs) h (suc i) = bytes_of xs h.1 i

pub octets_of : (xs : List ℕ) → Bytes xs → Octets xs
octets_of [] b = tt
octets_of (x ∷ xs) b = (b 0, octets_of xs (λ i. b (suc i)))

pub octets_append : (xs ys : List ℕ) → Octets xs → Octets ys → Octets (xs ++ ys)
octets_append [] ys a b = b
octets_append (x ∷ xs) ys a b = (a.0, octets_append xs ys a.1 b)

pub bytes_append : (xs ys : List ℕ) → Bytes xs → Bytes ys → Bytes (xs ++ ys)
bytes_append xs ys a b = bytes_of (xs ++ ys) (octets_append xs ys (octets_of xs a) (octets_of ys b))

pub bytes-written : (m : List ℕ) (at : ℕ) (s : List ℕ) → Bytes m → Bytes s → Bytes (written m at s)
bytes-written m at s a b i =
    ⊎_elim
    (λ (lt : i < at). let e = get_or_before m at s i 0 lt in omega (arith, a i))
    (λ (ge : at ≤ i).
    ⊎_elim
    (λ (lt : i < at + length s).
    ⊎_elim
    (λ (inside : i < length m). let e = get_or-within m at s i 0 ge lt inside in let z = b (i - at) in omega arith)
    (λ (out : length m ≤ i). let e = get_or_past (written m at s) i 0 (omega (arith, length-written m at s)) in omega arith)
    (cases_lt i (length m)))
    (λ (out : at + length s ≤ i). let e = get_or-after m at s i 0 out in omega (arith, a i))
    (cases_lt i (at + length s)))
    (cases_lt i at)

pub low : (v : ℕ) → v % 256 < 256
low v = omega arith

pub octets_two : (v : ℕ) → Octets (bytes2 v)
octets_two v = (low _, (low _, tt))

pub octets_four : (v : ℕ) → Octets (bytes4 v)
octets_four v = (low _, (low _, (low _, (low _, tt))))

pub octets_eight : (v : ℕ) → Octets (bytes8 v)
octets_eight v = (low _, (low _, (low _, (low _, (low _, (low _, (low _, (low _, tt))))))))

pub bytes-two : (v : ℕ) → Bytes (bytes2 v)
bytes-two v = bytes_of (bytes2 v) (octets_two v)

pub bytes-four : (v : ℕ) → Bytes (bytes4 v)
bytes-four v = bytes_of (bytes4 v) (octets_four v)

pub bytes-row : (x : Row) → x.list < 256 → x.kind < 256 → Bytes (row_bytes x)
bytes-row x l k = bytes_of (row_bytes x) (l, (k, (low _, (low _, (low _, (low _, (low _, (low _, (low _, (low _, (low _, (low _, (low _, (low _, (low _, (low _, (low _, (low _, (low _, (low _, (low _, (low _, (low _, (low _, tt))))))))))))))))))))))))

-- zeros
pub zero-at : (n i : ℕ) → get_or (zeros n) i 0 ≡ 0
zero-at n i = ⊎_elim (λ (h : i < n). get_or-replicate n i 0 0 h) (λ (h : n ≤ i). get_or_past (zeros n) i 0 (omega (arith, length-replicate {A = ℕ} n 0))) (cases_lt i n)

pub bytes-zeros : (n : ℕ) → Bytes (zeros n)
bytes-zeros n i = let e = zero-at n i in omega arith
