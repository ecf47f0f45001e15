use Rattle.std.proofs.Common.{◌≡◌, [], drop, None, vec_items}
use Rattle.notation.specs.Reading.{bytes_from}
use Rattle.notation.proofs.hex.read_bytes.Given as goal

-- reading on from here comes to what reading from the start does
abbrev pub invariant-loop-b : goal.invariant-loop-b
invariant-loop-b l = bytes_from l.first (vec_items l.out) (drop l.b-index l.digits) ≡ bytes_from None [] l.digits
