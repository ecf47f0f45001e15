use Rattle.readers.proofs.Entries.{or_some}
use Rattle.derived.proofs.Names.{passed}
use Rattle.derived.proofs.resource_name.write_resource_name.Goals as goal

pub returns-in-Some : goal.returns-in-Some
returns-in-Some g c = or_some _ _ _ c.in-Some.ensures

pub returns-in-Some-http_resource : goal.returns-in-Some-http_resource
returns-in-Some-http_resource g c = passed _ _ _ c.in_default.ensures (or_some _ _ _ c.in-Some-http_resource.ensures)

pub returns-in-Some-messaging_resource : goal.returns-in-Some-messaging_resource
returns-in-Some-messaging_resource g c = passed _ _ _ c.in_default.ensures (passed _ _ _ c.in_default-http_resource.ensures (or_some _ _ _ c.in-Some-messaging_resource.ensures))

pub returns : goal.returns
returns g c = passed _ _ _ c.in_default.ensures (passed _ _ _ c.in_default-http_resource.ensures (passed _ _ _ c.in_default-messaging_resource.ensures c.resource_by_use.ensures))
