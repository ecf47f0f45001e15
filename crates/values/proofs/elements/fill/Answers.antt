use Rattle.std.proofs.Common.{arith}
use Rattle.std.proofs.lemmas.Bool.Decides.{nat_tests}
use Rattle.values.proofs.Steps.{falls, sizes_next, sizes_end}
use Rattle.values.proofs.elements.fill.Goals as goal

pub loop-first-smaller : goal.loop-first-smaller
loop-first-smaller c = falls c.args.kind c.loop-first.left.now _ _ c.in-Some.ensures c.after-left.ensures

pub loop-first-preserved : goal.loop-first-preserved
loop-first-preserved c = let n = sizes_next c.args.kind c.loop-first.left.now _ _ c.in-Some.ensures c.after-left.ensures in let i = c.loop-first.invariant in omega arith

pub returns : goal.returns
returns c = let e = sizes_end c.args.kind c.loop-first.left.now c.in_default.ensures in let i = c.loop-first.invariant in grind (arith, nat_tests)
