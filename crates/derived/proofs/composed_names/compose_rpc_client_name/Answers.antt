use Rattle.std.proofs.Common.{rules}
use Rattle.derived.proofs.Names.{given}
use Rattle.readers.proofs.Fronts.{portion-padded}
use Rattle.derived.proofs.composed_names.compose_rpc_client_name.Goals as goal

pub returns-then-is_aws : goal.returns-then-is_aws
returns-then-is_aws g c = search (rules, given, portion-padded)

pub returns : goal.returns
returns g c = search (rules, given, portion-padded)
