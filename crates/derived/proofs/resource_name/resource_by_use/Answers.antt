use Rattle.readers.proofs.Entries.{or_some}
use Rattle.derived.proofs.Names.{passed}
use Rattle.derived.proofs.resource_name.resource_by_use.Goals as goal

pub returns-in-Some : goal.returns-in-Some
returns-in-Some g c = or_some _ _ _ c.in-Some.ensures

pub returns-in-Some-detailed_name : goal.returns-in-Some-detailed_name
returns-in-Some-detailed_name g c = passed _ _ _ c.in_default.ensures (or_some _ _ _ c.in-Some-detailed_name.ensures)

pub returns-in-Some-database_resource : goal.returns-in-Some-database_resource
returns-in-Some-database_resource g c = passed _ _ _ c.in_default.ensures (passed _ _ _ c.in_default-detailed_name.ensures (or_some _ _ _ c.in-Some-database_resource.ensures))

pub returns : goal.returns
returns g c = passed _ _ _ c.in_default.ensures (passed _ _ _ c.in_default-detailed_name.ensures (passed _ _ _ c.in_default-database_resource.ensures c.own_name.ensures))
