use Rattle.std.proofs.Common.{◌++◌}
use Rattle.derived.proofs.Names.{offered}
use Rattle.derived.proofs.composed_names.compose_after.Goals as goal

pub returns : goal.returns
returns g c = offered (λ s. s ++ c.args.word.bytes.now) _ _ _ c.lower_text-text.ensures c.if-is_empty.ensures c.compose.ensures
