use Rattle.readers.proofs.Entries.{or_some}
use Rattle.derived.proofs.Names.{passed}
use Rattle.derived.proofs.operation_name.client_name.Goals as goal

pub returns-in-Some : goal.returns-in-Some
returns-in-Some g c = or_some _ _ _ c.in-Some.ensures

pub returns-in-Some-messaging_name : goal.returns-in-Some-messaging_name
returns-in-Some-messaging_name g c = passed _ _ _ c.in_default.ensures (or_some _ _ _ c.in-Some-messaging_name.ensures)

pub returns-in-Some-rpc_client_name : goal.returns-in-Some-rpc_client_name
returns-in-Some-rpc_client_name g c = passed _ _ _ c.in_default.ensures (passed _ _ _ c.in_default-messaging_name.ensures (or_some _ _ _ c.in-Some-rpc_client_name.ensures))

pub returns-in-Some-invoked_name : goal.returns-in-Some-invoked_name
returns-in-Some-invoked_name g c = passed _ _ _ c.in_default.ensures (passed _ _ _ c.in_default-messaging_name.ensures (passed _ _ _ c.in_default-rpc_client_name.ensures (or_some _ _ _ c.in-Some-invoked_name.ensures)))

pub returns : goal.returns
returns g c = passed _ _ _ c.in_default.ensures (passed _ _ _ c.in_default-messaging_name.ensures (passed _ _ _ c.in_default-rpc_client_name.ensures (passed _ _ _ c.in_default-invoked_name.ensures c.request_name.ensures)))
