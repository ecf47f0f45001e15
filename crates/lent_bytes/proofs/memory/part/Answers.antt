use Rattle.std.proofs.Common.{arith, rules}
use Rattle.std.proofs.lemmas.List.{places, same_lists}
use Rattle.lent_bytes.specs.Memory.{portion}
use Rattle.lent_bytes.proofs.memory.part.Goals as goal

pub returns : goal.returns
unfolding portion
returns c = same_lists _ _ (search (rules, places)) (λ k d h. grind (arith, places))
