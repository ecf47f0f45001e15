-- How much of an array's text is left.
use Rattle.std.proofs.Common.{◌≡◌, ℕ, ◌+◌, ◌<◌, List, length, Some, None, Option, Bor, IfSome, arith}

abbrev pub size_left : Option (Bor (List ℕ)) → ℕ
size_left None = 0
size_left (Some text) = length text.now + 1

pub fewer : (old new : Option (Bor (List ℕ))) (text : Bor (List ℕ)) → old ≡ Some text → IfSome new (λ t. length t.now < length text.now) → size_left new < size_left old
fewer old None text e h = rw e (omega arith)
fewer old (Some t) text e h = rw e (omega (arith, h))
