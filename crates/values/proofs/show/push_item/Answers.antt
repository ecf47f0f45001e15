use Rattle.lent_bytes.proofs.Writers.{wrote_more}
use Rattle.values.proofs.show.push_item.Goals as goal

pub returns : goal.returns
returns c = wrote_more _ _ _ _ _ c.push_comma.ensures c.push_scalar.ensures
