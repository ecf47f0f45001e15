use Rattle.readers.proofs.Entries.{or_some}
use Rattle.derived.proofs.Names.{passed}
use Rattle.derived.proofs.operation_name.request_name.Goals as goal

pub returns-in-Some : goal.returns-in-Some
returns-in-Some g c = or_some _ _ _ c.in-Some.ensures

pub returns-in-Some-protocol_name : goal.returns-in-Some-protocol_name
returns-in-Some-protocol_name g c = passed _ _ _ c.in_default.ensures (or_some _ _ _ c.in-Some-protocol_name.ensures)

pub returns : goal.returns
returns g c = passed _ _ _ c.in_default.ensures (passed _ _ _ c.in_default-protocol_name.ensures c.compose.ensures)
