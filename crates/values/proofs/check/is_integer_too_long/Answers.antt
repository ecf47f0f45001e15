use Rattle.std.proofs.Common.{◌≤◌, length, arith}
use Rattle.std.specs.Fmt.{signed_decimal}
use Rattle.std.proofs.lemmas.Bool.Decides.{nat_tests}
use Rattle.std.proofs.lemmas.Fmt.{length_signed_le}
use Rattle.values.proofs.check.is_integer_too_long.Goals as goal

pub returns : goal.returns
returns c =
    let l : length (signed_decimal c.args.number) ≤ 21 = length_signed_le 20 c.args.number (grind arith) (grind arith) in
    grind (arith, nat_tests)
