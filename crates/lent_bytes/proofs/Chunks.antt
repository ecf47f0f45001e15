-- A list from an index on, with its next elements written out.
use Rattle.std.proofs.Common.{◌≡◌, ℕ, zero, suc, ◌+◌, ◌≤◌, List, [], ◌∷◌, length, get_or, take, drop, refl, arith}
use Rattle.std.proofs.lemmas.List.{drop_more}

step : (xs : List ℕ) (i j : ℕ) → j ≡ i + 1 → j ≤ length xs → drop i xs ≡ get_or xs i 0 ∷ drop j xs
step xs i j e h = rw e (drop_more xs i 0 (omega arith))

pub drop-two : (xs : List ℕ) (i : ℕ) → i + 2 ≤ length xs → drop i xs ≡ get_or xs i 0 ∷ get_or xs (i + 1) 0 ∷ drop (i + 2) xs
drop-two xs i h =
    let a = step xs i (i + 1) refl (omega arith) in
    let b = step xs (i + 1) (i + 2) (omega arith) (omega arith) in
    cc

-- past what was taken
pub drop-taken : (k : ℕ) (xs : List ℕ) → drop (length (take k xs)) xs ≡ drop k xs
drop-taken zero xs = refl
drop-taken (suc k) [] = refl
drop-taken (suc k) (x ∷ xs) = drop-taken k xs

pub drop-four : (xs : List ℕ) (i : ℕ) → i + 4 ≤ length xs → drop i xs ≡ get_or xs i 0 ∷ get_or xs (i + 1) 0 ∷ get_or xs (i + 2) 0 ∷ get_or xs (i + 3) 0 ∷ drop (i + 4) xs
drop-four xs i h =
    let a = step xs i (i + 1) refl (omega arith) in
    let b = step xs (i + 1) (i + 2) (omega arith) (omega arith) in
    let c = step xs (i + 2) (i + 3) (omega arith) (omega arith) in
    let d = step xs (i + 3) (i + 4) (omega arith) (omega arith) in
    cc

pub drop-eight : (xs : List ℕ) (i : ℕ) → i + 8 ≤ length xs → drop i xs ≡ get_or xs i 0 ∷ get_or xs (i + 1) 0 ∷ get_or xs (i + 2) 0 ∷ get_or xs (i + 3) 0 ∷ get_or xs (i + 4) 0 ∷ get_or xs (i + 5) 0 ∷ get_or xs (i + 6) 0 ∷ get_or xs (i + 7) 0 ∷ drop (i + 8) xs
drop-eight xs i h =
    let a = drop-four xs i (omega arith) in
    let b = step xs (i + 4) (i + 5) (omega arith) (omega arith) in
    let c = step xs (i + 5) (i + 6) (omega arith) (omega arith) in
    let d = step xs (i + 6) (i + 7) (omega arith) (omega arith) in
    let e = step xs (i + 7) (i + 8) (omega arith) (omega arith) in
    cc
