use Rattle.std.proofs.Common.{rules}
use Rattle.conversion.proofs.UnderLemmas.{looked_none, looked_hit, looked_miss, looked_end}
use Rattle.conversion.proofs.by_key.last_with_key.Goals as goal

pub loop-i-init : goal.loop-i-init
loop-i-init c = looked_none _ _ _ _

pub loop-i-preserved : goal.loop-i-preserved
loop-i-preserved c = search (rules, looked_hit, looked_miss)

pub returns : goal.returns
returns c = record { row = looked_end _ _ _ _ _ _ c.loop-i.invariant c.loop-i-test.false; within = c.loop-i.invariant.within; list = c.loop-i.invariant.list }
