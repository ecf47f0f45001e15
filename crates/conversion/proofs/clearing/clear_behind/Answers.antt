use Rattle.std.proofs.Common.{arith}
use Rattle.conversion.proofs.ClearLemmas.{both_cleared}
use Rattle.conversion.proofs.clearing.clear_behind.Goals as goal

pub returns : goal.returns
returns c = both_cleared c.args.m.now _ _ _ _ c.min-soon.result c.args.n (omega arith) (omega arith) c.split_at_mut-front.ensures.front c.split_at_mut-front.ensures.back c.clear_from.ensures c.clear_all.ensures
