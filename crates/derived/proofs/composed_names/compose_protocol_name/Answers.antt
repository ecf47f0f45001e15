use Rattle.std.proofs.Common.{◌++◌, codes}
use Rattle.derived.proofs.Names.{offered}
use Rattle.derived.proofs.composed_names.compose_protocol_name.Goals as goal

pub returns : goal.returns
returns g c = offered (λ s. s ++ (codes "." ++ c.args.request.bytes.now)) _ _ _ c.lower_text-protocol.ensures c.if-is_empty.ensures c.compose.ensures
