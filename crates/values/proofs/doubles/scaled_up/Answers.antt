use Rattle.std.proofs.Common.{sym, arith}
use Rattle.std.proofs.lemmas.Nat.{shl_whole}
use Rattle.std.proofs.lemmas.Bool.Decides.{nat_tests}
use Rattle.values.proofs.Scaled.{small-none}
use Rattle.values.proofs.doubles.scaled_up.Goals as goal

pub returns-then-e-gt63 : goal.returns-then-e-gt63
returns-then-e-gt63 c = sym (small-none c.args.q c.args.e (omega arith) (omega arith))

pub returns-then-n-le9223372036854775808 : goal.returns-then-n-le9223372036854775808
returns-then-n-le9223372036854775808 c = let s = shl_whole c.args.q 64 c.args.e 128 (omega arith) (omega arith) in grind (arith, nat_tests)

pub returns-else-n-le9223372036854775808 : goal.returns-else-n-le9223372036854775808
returns-else-n-le9223372036854775808 c = let s = shl_whole c.args.q 64 c.args.e 128 (omega arith) (omega arith) in grind (arith, nat_tests)
