use Rattle.std.proofs.Common.{◌≡◌, ◌*◌, ◌^◌, ◌<◌, drop, Some}
use Rattle.notation.specs.Hex.{number_from}
use Rattle.notation.proofs.hex.pattern.Given as goal

-- the digits so far say `number`, and four bits come with each
abbrev pub invariant-loop-b : goal.invariant-loop-b
invariant-loop-b l =
    (l.number < 2 ^ (4 * l.b-index))
    × (number_from (Some l.number) (drop l.b-index l.digits) ≡ number_from (Some 0) l.digits)
