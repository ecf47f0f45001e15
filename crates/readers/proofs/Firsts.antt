-- The first of two texts.
use Rattle.std.proofs.Common.{◌≡◌, ℕ, ◌<◌, List, [], ◌∷◌, length, refl, arith}
use Rattle.readers.specs.Texts.{or_else}

pub here : (t u : List ℕ) → 0 < length t → or_else t u ≡ t
here [] u h = absurd (omega arith)
here (x ∷ t) u h = refl
