use Rattle.std.proofs.Common.{◌≡◌, ℕ, List, ◌++◌, map, length}
use Rattle.lent_bytes.specs.Writing.{Wrote}
use Rattle.values.specs.Format.{elements_in}
use Rattle.values.specs.Shown.{atom_text, listed}
use Rattle.values.proofs.show.push_array.Given as goal

-- what was pushed since the loop began, with what is still to come, is the same all along
abbrev pub invariant-loop-element : goal.invariant-loop-element
invariant-loop-element l =
    (t : List ℕ)
    × Wrote l.initial.out l.out t
    × (t ++ listed l.first (map (atom_text l.quotes) (elements_in l.kind l.left)) ≡ listed l.initial.first (map (atom_text l.quotes) (elements_in l.kind l.initial.left)))

abbrev pub decreases-loop-element : goal.decreases-loop-element
decreases-loop-element l = length l.left
