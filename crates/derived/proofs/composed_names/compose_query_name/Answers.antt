use Rattle.std.proofs.Common.{◌++◌, codes}
use Rattle.derived.proofs.Names.{offered}
use Rattle.derived.proofs.composed_names.compose_query_name.Goals as goal

pub returns : goal.returns
returns g c = offered (λ s. s ++ codes ".query") _ _ _ c.lower_first-system.ensures c.if-is_empty.ensures c.compose.ensures
