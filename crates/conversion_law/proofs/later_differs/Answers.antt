use Rattle.conversion_law.proofs.LaterDiffers.{later_differs_lem, piles_differ_lem, same_resource_lem}
use Rattle.conversion_law.proofs.later_differs.Goals as goal

pub returns-clause-later : goal.returns-clause-later
returns-clause-later c = later_differs_lem

pub returns-clause-piles : goal.returns-clause-piles
returns-clause-piles c = piles_differ_lem

pub returns-clause-resource : goal.returns-clause-resource
returns-clause-resource c = same_resource_lem
