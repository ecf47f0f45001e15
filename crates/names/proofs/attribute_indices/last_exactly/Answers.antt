use Rattle.names.proofs.Ends.{last_exactly_lem}
use Rattle.names.proofs.attribute_indices.last_exactly.Goals as goal

pub returns : goal.returns
returns c = last_exactly_lem
