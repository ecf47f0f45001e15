use Rattle.std.proofs.Common.{arith}
use Rattle.conversion.proofs.ClearLemmas.{is_clear}
use Rattle.conversion.proofs.clearing.clear_all.Goals as goal

pub returns-else-largest-gt0 : goal.returns-else-largest-gt0
returns-else-largest-gt0 c = is_clear c.args.m.now (let e = c.largest.ensures in let n = c.if-largest-gt0.false in omega arith)
