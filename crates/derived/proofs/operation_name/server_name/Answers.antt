use Rattle.readers.proofs.Entries.{or_some}
use Rattle.derived.proofs.Names.{passed}
use Rattle.derived.proofs.operation_name.server_name.Goals as goal

pub returns-in-Some : goal.returns-in-Some
returns-in-Some g c = or_some _ _ _ c.in-Some.ensures

pub returns-in-Some-named_after : goal.returns-in-Some-named_after
returns-in-Some-named_after g c = passed _ _ _ c.in_default.ensures (or_some _ _ _ c.in-Some-named_after.ensures)

pub returns-in-Some-named_after-2 : goal.returns-in-Some-named_after-2
returns-in-Some-named_after-2 g c = passed _ _ _ c.in_default.ensures (passed _ _ _ c.in_default-named_after.ensures (or_some _ _ _ c.in-Some-named_after-2.ensures))

pub returns : goal.returns
returns g c = passed _ _ _ c.in_default.ensures (passed _ _ _ c.in_default-named_after.ensures (passed _ _ _ c.in_default-named_after-2.ensures c.request_name.ensures))
