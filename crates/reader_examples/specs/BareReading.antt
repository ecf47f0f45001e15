-- The reading of a reader that has a name and nothing else.
use Rattle.std.specs.Prelude.{ℕ, List, None}
use Rattle.lent_bytes.specs.Memory.{clip}
use Rattle.blocks.specs.declared.span_kind.SpanKind.TheVariants.{Internal}
use Rattle.readers.specs.Reading.{Reading}

abbrev pub bare : List ℕ → Reading
bare n = record { name = clip 4096 n; kind = Internal; span = λ k. None; resource = λ k. None }
