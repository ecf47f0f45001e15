use Rattle.std.proofs.Common.{sym, ◌∙◌, arith}
use Rattle.values.specs.Doubles.{small}
use Rattle.values.proofs.Scaled.{above, below}
use Rattle.values.proofs.doubles.in_units.Goals as goal

pub returns-then-k-ge1074 : goal.returns-then-k-ge1074
returns-then-k-ge1074 c = c.scaled_up.ensures ∙ sym (above small c.args.q c.args.k 1074 _ (omega arith))

pub returns-else-k-ge1074 : goal.returns-else-k-ge1074
returns-else-k-ge1074 c = c.scaled_down.ensures ∙ sym (below small c.args.q c.args.k 1074 _ (omega arith))
