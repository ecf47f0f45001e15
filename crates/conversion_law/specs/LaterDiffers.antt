-- The later edition tells on the name, the type and the resource of a span alone.
use Rattle.std.specs.Prelude.{◌≡◌, ℕ, List}
use Rattle.blocks.specs.Facts.{Facts}
use Rattle.readers.specs.Reading.{Reading}
use Rattle.layer.specs.Later.{later_edition}
use Rattle.layer.specs.Layers.{Layer, piled}
use Rattle.conversion.specs.Spans.{Span}
use Rattle.conversion.specs.Steps.{steps}

-- equal but for the name, the type and the resource, and for the arena, which holds them
pub record SameButThree (s t : Span) : Type 0 where
  pub service : s.service ≡ t.service
  pub trace_id : s.trace_id ≡ t.trace_id
  pub span_id : s.span_id ≡ t.span_id
  pub parent_id : s.parent_id ≡ t.parent_id
  pub start : s.start ≡ t.start
  pub duration : s.duration ≡ t.duration
  pub error : s.error ≡ t.error
  pub meta : s.meta ≡ t.meta
  pub metrics : s.metrics ≡ t.metrics
  pub links : s.links ≡ t.links
  pub events : s.events ≡ t.events

-- the span made under the later edition, and the one made bare
abbrev pub LaterDiffers : Type 0
LaterDiffers = (n : ℕ) (f : Facts) (r : Reading) → SameButThree (steps n f (later_edition r)) (steps n f r)

-- and under every pile of layers
abbrev pub PilesDiffer : Type 0
PilesDiffer = (ls : List Layer) (n : ℕ) (f : Facts) (r : Reading) → SameButThree (steps n f (piled ls r)) (steps n f r)

-- the resource is the same too, since it asks only whether a database has a name
abbrev pub SameResource : Type 0
SameResource = (ls : List Layer) (n : ℕ) (f : Facts) (r : Reading) → (steps n f (piled ls r)).resource ≡ (steps n f r).resource
