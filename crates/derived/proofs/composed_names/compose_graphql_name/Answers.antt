use Rattle.std.proofs.Common.{rules}
use Rattle.derived.proofs.Names.{given}
use Rattle.derived.proofs.composed_names.compose_graphql_name.Goals as goal

pub returns : goal.returns
returns g c = search (rules, given)
