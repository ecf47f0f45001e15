use Rattle.std.proofs.Common.{◌<◌, map, length, sym, ap, ◌∙◌, arith}
use Rattle.std.proofs.lemmas.List.{length-map, get_or-map, take_all}
use Rattle.names.specs.Keys.{keys}
use Rattle.names.specs.Places.{last_place}
use Rattle.names.proofs.Lasts.{lasts_noted, lasts_none}
use Rattle.names.proofs.attribute_indices.AttributeIndices.from_keys.Goals as goal

pub loop-i-init : goal.loop-i-init
loop-i-init c = c.default-indices.ensures ∙ sym lasts_none

pub loop-i-preserved : goal.loop-i-preserved
loop-i-preserved c =
    let texts = map (λ x. x.now) c.args.attributes.now in
    let i = c.loop-i.i in
    let l : i < length texts = omega (arith, length-map c.args.attributes.now (λ x. x.now)) in
    let at = get_or-map (λ x. x.now) c.args.attributes.now i _ _ c.loop-i-test.true in
    lasts_noted texts i _ l at _ _ c.loop-i.invariant c.note.ensures

pub returns : goal.returns
returns c =
    let texts = map (λ x. x.now) c.args.attributes.now in
    let e = take_all c.loop-i.i texts (omega (arith, length-map c.args.attributes.now (λ x. x.now))) in
    c.loop-i.invariant ∙ ap (λ js. map (λ k. last_place k js) keys) e
