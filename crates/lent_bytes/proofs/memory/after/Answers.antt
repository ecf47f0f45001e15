use Rattle.std.proofs.Common.{rules}
use Rattle.std.proofs.lemmas.List.{take_rest, drop_min}
use Rattle.lent_bytes.specs.Memory.{rest}
use Rattle.lent_bytes.proofs.memory.after.Goals as goal

pub returns : goal.returns
unfolding rest
returns c = search (rules, take_rest, drop_min)
