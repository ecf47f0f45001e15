use Rattle.std.proofs.Common.{sym, arith}
use Rattle.std.proofs.lemmas.Nat.{one_shl}
use Rattle.std.proofs.lemmas.Bool.Decides.{nat_tests}
use Rattle.values.proofs.Scaled.{fraction_none}
use Rattle.values.proofs.doubles.scaled_down.Goals as goal

pub returns-then-e-gt63 : goal.returns-then-e-gt63
returns-then-e-gt63 c = sym (fraction_none c.args.q c.args.e (omega arith) (omega arith) (omega arith))

pub returns-then-q-u-ne0 : goal.returns-then-q-u-ne0
returns-then-q-u-ne0 c = let s = one_shl c.args.e 64 (omega arith) in grind (arith, nat_tests)

pub returns-then-n-le9223372036854775808 : goal.returns-then-n-le9223372036854775808
returns-then-n-le9223372036854775808 c = let s = one_shl c.args.e 64 (omega arith) in grind (arith, nat_tests)

pub returns-else-n-le9223372036854775808 : goal.returns-else-n-le9223372036854775808
returns-else-n-le9223372036854775808 c = let s = one_shl c.args.e 64 (omega arith) in grind (arith, nat_tests)
