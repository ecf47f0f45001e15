use Rattle.layer.proofs.Earlier.{read-filled, of_resource}
use Rattle.layer.proofs.later_edition.LaterEditionOtelSpan.get_res_attribute_opt.Goals as goal

pub put_earlier-requires : goal.put_earlier-requires
put_earlier-requires g c = read-filled _ _ _ c.in_ok-n.ensures.size c.in_ok-n.ensures.text

pub returns : goal.returns
returns g c =
    let p = of_resource c.args.key.idx _ _ _ _ _ c.in_ok-n.ensures.size c.in_ok-n.ensures.text c.put_earlier.ensures in
    record { size = p.0; text = p.1 }
