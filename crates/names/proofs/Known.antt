-- The table of the keys has no text twice.
use Rattle.std.proofs.Common.{◌≡◌, true, refl}
use Rattle.lent_bytes.specs.Lookup.{distinct}
use Rattle.names.specs.Keys.{keys}

pub keys-distinct : distinct keys ≡ true
keys-distinct = refl
