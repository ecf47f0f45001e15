use Rattle.std.proofs.Common.{◌≡◌, true, false, arith, rules, tests}
use Rattle.std.proofs.lemmas.Iterator.{YieldsList-from_range, cases_from_any}
use Rattle.blocks.specs.Faults.{resource_key}
use Rattle.blocks.proofs.Runs.{said_any}
use Rattle.blocks.proofs.rows.is_said.Goals as goal

pub returns : goal.returns
returns c = said_any c.args.block.now c.args.key.now c.args.i _ (cases_from_any _ _ _ (λ j. resource_key c.args.block.now c.args.key.now j ≡ true) (λ j. resource_key c.args.block.now c.args.key.now j ≡ false) c.any.ensures.ran (YieldsList-from_range 0 c.args.i c.args.i (cc) (omega arith)) (λ j q k. search (rules, tests)) (λ j q k. search (rules, tests)))
