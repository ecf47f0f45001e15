use Rattle.std.proofs.Common.{sym, refl}
use Rattle.values.proofs.Scaled.{bits, bits_top}
use Rattle.values.proofs.doubles.whole_number.Goals as goal

pub returns-then-x-eq2047 : goal.returns-then-x-eq2047
returns-then-x-eq2047 c = sym (bits_top c.args.p c.if-x-eq2047.true)

pub returns : goal.returns
returns c = let e = bits c.args.p _ refl c.if-x-eq2047.false in cc
