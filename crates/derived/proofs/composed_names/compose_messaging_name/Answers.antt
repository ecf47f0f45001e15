use Rattle.std.proofs.Common.{◌++◌, codes}
use Rattle.derived.proofs.Names.{offered-both}
use Rattle.derived.proofs.composed_names.compose_messaging_name.Goals as goal

pub returns : goal.returns
returns g c = offered-both (λ s t. s ++ (codes "." ++ t)) _ _ _ _ _ c.lower_text-system.ensures c.if-is_empty.ensures c.lower_first-operation.ensures c.if-is_empty-2.ensures c.compose.ensures
