-- What is written through a writer of texts.
use Rattle.std.specs.Prelude.{◌≡◌, ℕ, List}
use Rattle.lent_bytes.specs.Memory.{Pushed}
use Rattle.lent_bytes.specs.declared.texts.TextWriter.{TextWriter}

-- the writer has written `more` behind its text, and holds the memory that it held
pub record Wrote (before after : TextWriter) (more : List ℕ) : Type 0 where
  pub pushed : Pushed before.memory.now before.len more after.len after.memory.now
  pub named : after.memory.ghost_name ≡ before.memory.ghost_name
