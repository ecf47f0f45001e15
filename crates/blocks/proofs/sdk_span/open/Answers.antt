use Rattle.blocks.proofs.Lawfully.{answered}
use Rattle.blocks.proofs.sdk_span.open.Goals as goal

pub returns : goal.returns
returns c = record { fault = c.checked.ensures.fault; span = c.checked.ensures.span; lawful = answered _ _ (λ i. (c.type_inv.block i).fits) c.checked.ensures.fault }
