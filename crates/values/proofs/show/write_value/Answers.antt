use Rattle.std.proofs.Common.{arith}
use Rattle.lent_bytes.proofs.Writers.{placed_whole}
use Rattle.values.proofs.show.write_value.Goals as goal

pub returns : goal.returns
returns c = placed_whole _ _ _ c.new-text.ensures.len c.push_value.ensures _ _ _ _ (omega arith) c.new-text.ensures.memory c.finish.ensures.len c.finish.ensures.text
