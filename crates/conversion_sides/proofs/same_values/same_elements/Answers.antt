use Rattle.std.proofs.Common.{sym, rules, ◌∙◌}
use Rattle.values.proofs.Steps.{falls}
use Rattle.conversion_sides.proofs.Elements.{same-next, same-shorter, same-end, none-said}
use Rattle.conversion_sides.proofs.same_values.same_elements.Goals as goal

pub returns-then-not-same_scalar : goal.returns-then-not-same_scalar
returns-then-not-same_scalar c =
    let n = same-next c.args.a.kind c.args.b.kind c.loop-x.left.now c.loop-x.right.now _ _ c.in-Some.ensures c.in-Some-first_element.ensures in
    let i = c.loop-x.invariant in
    search rules

pub loop-x-smaller : goal.loop-x-smaller
loop-x-smaller c = falls c.args.a.kind c.loop-x.left.now _ _ c.in-Some.ensures c.after-left.ensures

pub loop-x-preserved : goal.loop-x-preserved
loop-x-preserved c =
    let n = same-next c.args.a.kind c.args.b.kind c.loop-x.left.now c.loop-x.right.now _ _ c.in-Some.ensures c.in-Some-first_element.ensures in
    let i = c.loop-x.invariant in
    search rules

pub returns-in-None : goal.returns-in-None
returns-in-None c = sym (same-shorter c.args.a.kind c.args.b.kind c.loop-x.left.now c.loop-x.right.now _ c.in-Some.ensures c.in-None.ensures) ∙ c.loop-x.invariant

pub returns : goal.returns
returns c = none-said c.is_none.result c.first_element-2.result (sym c.is_none.ensures) ∙ same-end c.args.a.kind c.args.b.kind c.loop-x.left.now c.loop-x.right.now c.first_element-2.result c.in_default.ensures c.first_element-2.ensures ∙ c.loop-x.invariant
