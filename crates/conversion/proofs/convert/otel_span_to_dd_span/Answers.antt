use Rattle.conversion.proofs.Lying.{at_cleared}
use Rattle.conversion.proofs.convert.otel_span_to_dd_span.Goals as goal

pub invariant_of-result : goal.invariant_of-result
invariant_of-result g c = record { links_held = at_cleared _ _ _ c.clear_rest.ensures.made (c.in-Ok.ensures.at) }
