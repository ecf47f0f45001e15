use Rattle.lent_bytes.proofs.Index.{looked_up_exactly}
use Rattle.names.specs.Keys.{keys}
use Rattle.names.proofs.Known.{keys-distinct}
use Rattle.names.proofs.attribute_keys.known_exactly.Goals as goal

pub returns : goal.returns
returns c = looked_up_exactly keys keys-distinct
