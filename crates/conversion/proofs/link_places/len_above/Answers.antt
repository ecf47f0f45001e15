use Rattle.std.proofs.Common.{◌<◌, arith, rules}
use Rattle.conversion.proofs.LinkRows.{counted_all, counted_more, counted_end}
use Rattle.conversion.proofs.link_places.len_above.Goals as goal

pub loop-i-init : goal.loop-i-init
loop-i-init c = search (rules, counted_all)

pub overflow_add-len : goal.overflow_add-len
overflow_add-len c = let few = c.loop-i.invariant.few in let n = c.link_len-len.ensures.few in let i = c.loop-i-test.true in let j : c.args.j < 65536 = omega (arith, c.ranges.j) in omega arith

pub loop-i-preserved : goal.loop-i-preserved
loop-i-preserved c = counted_more _ _ _ _ _ c.loop-i.invariant _ _ c.loop-i-test.true c.link_len-len.ensures.len c.link_len-len.ensures.few c.or_link-below.ensures

pub returns : goal.returns
returns c = counted_end _ _ _ _ _ c.loop-i.invariant c.loop-i-test.false
