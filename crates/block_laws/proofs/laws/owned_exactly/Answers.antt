use Rattle.block_laws.proofs.Covering as covering
use Rattle.block_laws.proofs.laws.owned_exactly.Goals as goal

pub returns : goal.returns
returns c = covering.owned_exactly_lem
