use Rattle.std.proofs.Common.{◌++◌, codes}
use Rattle.derived.proofs.Names.{offered-both}
use Rattle.derived.proofs.composed_names.compose_invoked_name.Goals as goal

pub returns : goal.returns
returns g c = offered-both (λ s t. s ++ (codes "." ++ (t ++ codes ".invoke"))) _ _ _ _ _ c.lower_text-provider.ensures c.if-is_empty.ensures c.lower_text-name.ensures c.if-is_empty-2.ensures c.compose.ensures
