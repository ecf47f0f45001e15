use Rattle.derived.proofs.Names.{offered-text}
use Rattle.derived.proofs.fields.own_text.Goals as goal

pub returns : goal.returns
returns g c = offered-text _ _ _ _ _ c.get_attr_str-n.ensures.len c.get_attr_str-n.ensures.text c.if-n-eq0.false c.front.ensures c.compose.ensures
