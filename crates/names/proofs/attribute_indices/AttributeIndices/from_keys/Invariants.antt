use Rattle.std.proofs.Common.{◌≡◌, map, take}
use Rattle.names.specs.Keys.{keys}
use Rattle.names.specs.Places.{last_place}
use Rattle.names.proofs.attribute_indices.AttributeIndices.from_keys.Given as goal

abbrev pub invariant-loop-i : goal.invariant-loop-i
invariant-loop-i l = l.indices.places ≡ map (λ k. last_place k (take l.i (map (λ x. x.now) l.attributes))) keys
