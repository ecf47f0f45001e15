use Rattle.std.proofs.Common.{rules}
use Rattle.std.proofs.lemmas.List.{set_past}
use Rattle.names.proofs.attribute_indices.put.Goals as goal

pub returns-else-at-places : goal.returns-else-at-places
returns-else-at-places c = search (rules, set_past)
