use Rattle.derived.proofs.Names.{offered_if}
use Rattle.derived.proofs.resource_name.database_resource.Goals as goal

pub returns : goal.returns
returns g c = offered_if _ _ _ _ _ c.res_span_text-system.ensures c.if-is_empty.ensures c.asked_text-asked.ensures c.if-is_empty-2.ensures c.compose.ensures
