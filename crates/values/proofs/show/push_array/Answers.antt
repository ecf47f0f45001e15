use Rattle.std.proofs.Common.{[], ◌++◌, sym, refl, ap, ◌∙◌, append_assoc}
use Rattle.lent_bytes.proofs.Writers.{wrote_more, wrote_none}
use Rattle.values.proofs.Steps.{falls}
use Rattle.values.proofs.Commas.{listed_next, listed_end}
use Rattle.values.proofs.show.push_array.Goals as goal

pub loop-element-smaller : goal.loop-element-smaller
loop-element-smaller c = falls c.args.array.kind c.loop-element.left.now _ _ c.in-Some.ensures c.after-left.ensures

pub loop-element-init : goal.loop-element-init
loop-element-init c = ([], wrote_none _, refl)

pub loop-element-preserved : goal.loop-element-preserved
loop-element-preserved c =
    let i = c.loop-element.invariant in
    let p = wrote_more _ _ _ _ _ i.1 c.push_item.ensures in
    let n = listed_next c.args.quotes c.loop-element.first c.args.array.kind c.loop-element.left.now _ _ c.in-Some.ensures c.after-left.ensures in
    (_, p, append_assoc i.0 _ _ ∙ ap (λ l. i.0 ++ l) (sym n) ∙ i.2)

pub returns : goal.returns
returns c =
    let i = c.loop-element.invariant in
    let p = wrote_more _ _ _ _ _ i.1 c.push-2.ensures in
    let q = wrote_more _ _ _ _ _ c.push.ensures p in
    let n = listed_end c.args.quotes c.loop-element.first c.args.array.kind c.loop-element.left.now c.in_default.ensures in
    rw (← n, i.2) at q
