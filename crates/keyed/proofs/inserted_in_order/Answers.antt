use Rattle.keyed.proofs.Inserted.{inserted_in_order_lem}
use Rattle.keyed.proofs.inserted_in_order.Goals as goal

pub returns : goal.returns
returns c = inserted_in_order_lem
