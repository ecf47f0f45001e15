-- A text out of the memory that it was written to.
use Rattle.std.proofs.Common.{◌≡◌, ℕ, ◌≤◌, min, List, ◌++◌, map, length, take, sym, ap, ◌∙◌, arith, length-drop, length-take}
use Rattle.lent_bytes.specs.Memory.{portion, padded}
use Rattle.lent_bytes.proofs.Clips.{take-padded, front}
use Rattle.std.proofs.lemmas.List.{take_at, length-map}

pub portion-padded : (w : ℕ) (t : List ℕ) → portion (padded w t) 0 (length t) ≡ t
unfolding portion
portion-padded w t = take-padded w t

pub portion-short : (m : List ℕ) (at n : ℕ) → length (portion m at n) ≤ length m
unfolding portion
portion-short m at n = simp (length-take, length-drop) (omega arith)

-- what was made of the first bytes, in place
pub made-front : (w n a : ℕ) (f : ℕ → ℕ) (xs p q : List ℕ) → length xs ≡ w → a ≡ min n w → p ≡ map f (take a xs) → portion (p ++ q) 0 a ≡ map f (portion xs 0 n)
unfolding portion
made-front w n a f xs p q lx ea ep =
    let e = front w n a xs lx ea in
    let l : length p ≡ a = ap length ep ∙ length-map _ f ∙ e.1 in
    take_at p q a l ∙ ep ∙ ap (map f) (sym e.0)
