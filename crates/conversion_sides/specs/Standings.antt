-- How what the left span holds stands beside what the right one holds.
use Rattle.std.specs.Prelude.{ℕ, Bool, cond, List, Some, None, Option, ◌==◌}
use Rattle.std.specs.Borrow.{Bor}
use Rattle.std.specs.Option.{option_map}
use Rattle.conversion_sides.specs.declared.standing.Standing.{Standing}
use Rattle.conversion_sides.specs.declared.standing.Standing.TheVariants.{Same, Differs, OnlyLeft, OnlyRight}

abbrev pub sameness : Bool → Standing
sameness same = cond same Same Differs

-- of two values, each of which may be absent, by a test of whether they are the same
abbrev pub stands : {V : Type 0} → (V → V → Bool) → Option V → Option V → Standing
stands same None None = Same
stands same (Some x) None = OnlyLeft
stands same None (Some y) = OnlyRight
stands same (Some x) (Some y) = sameness (same x y)

-- the bytes of a text that may be absent
abbrev pub bytes_in : Option (Bor (List ℕ)) → Option (List ℕ)
bytes_in o = option_map (λ t. t.now) o

-- what stands the same where the rest does so too
abbrev pub standing_and : Standing → Bool → Standing
standing_and Same rest = sameness rest
standing_and Differs rest = Differs
standing_and OnlyLeft rest = OnlyLeft
standing_and OnlyRight rest = OnlyRight

abbrev pub standing_number : Standing → ℕ
standing_number Same = 0
standing_number Differs = 1
standing_number OnlyLeft = 2
standing_number OnlyRight = 3

abbrev pub is_standing : Standing → Standing → Bool
is_standing s t = standing_number s == standing_number t
