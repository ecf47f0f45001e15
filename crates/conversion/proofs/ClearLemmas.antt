-- Memory that is clear, or is made so behind its first bytes.
use Rattle.std.proofs.Common.{◌≡◌, ℕ, ◌-◌, ◌≤◌, List, [], ◌∷◌, ◌++◌, length, take, drop, replicate, min, max, refl, arith, rules}
use Rattle.std.specs.List.{fold}
use Rattle.std.proofs.lemmas.List.{places, same_lists}
use Rattle.lent_bytes.specs.Memory.{padded}

no_larger : (a : ℕ) (m : List ℕ) → fold max a m ≤ 0 → (a ≤ 0) × (m ≡ replicate (length m) 0)
no_larger a [] h = (h, refl)
no_larger a (x ∷ m) h =
    let ih = no_larger (max a x) m h in
    let l = ih.0 in
    let z : x ≡ 0 = omega arith in
    (omega arith, (λ i. z i ∷ ih.1 i))

pub is_clear : (m : List ℕ) → fold max 0 m ≤ 0 → m ≡ padded (length m) []
unfolding padded
is_clear m h = let z : length m - 0 ≡ length m = omega arith in rw z (no_larger 0 m h).1

-- the first k bytes are cleared behind n, and so are all others
pub both_cleared : (m f r a b : List ℕ) (k n : ℕ) → k ≤ length m → min n (length m) ≤ k → f ≡ take k m → r ≡ drop k m → a ≡ padded (length f) (take n f) → b ≡ padded (length r) (take 0 r) → a ++ b ≡ padded (length m) (take n m)
unfolding padded
both_cleared m f r a b k n h l ef er ea eb = rw (ea, eb, ef, er) (same_lists _ _ (search (rules, places)) (λ i d u. grind (arith, places)))
