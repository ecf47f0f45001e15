use Rattle.std.proofs.Common.{sym, rules}
use Rattle.values.proofs.Steps.{falls, readable-next, elements_end}
use Rattle.values.proofs.elements.are_readable.Goals as goal

pub returns-then-not-is_readable : goal.returns-then-not-is_readable
returns-then-not-is_readable c = let n = readable-next c.args.kind c.loop-first.left.now _ c.in-Some.ensures in let i = c.loop-first.invariant in search rules

pub loop-first-smaller : goal.loop-first-smaller
loop-first-smaller c = falls c.args.kind c.loop-first.left.now _ _ c.in-Some.ensures c.after-left.ensures

pub loop-first-preserved : goal.loop-first-preserved
loop-first-preserved c = let n = readable-next c.args.kind c.loop-first.left.now _ c.in-Some.ensures in let i = c.loop-first.invariant in search rules

pub returns : goal.returns
returns c = let e = elements_end c.args.kind c.loop-first.left.now (sym c.in_default.ensures) in let i = c.loop-first.invariant in search rules
