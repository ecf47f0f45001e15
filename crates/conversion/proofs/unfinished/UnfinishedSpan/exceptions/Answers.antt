use Rattle.std.proofs.Common.{◌<◌, ◌≤◌, arith}
use Rattle.blocks.specs.Layout.{rows_in}
use Rattle.conversion.proofs.Chains.{step_failed}
use Rattle.conversion.proofs.EventLemmas.{raised_all, raised_more, raised_stop, raised_end}
use Rattle.conversion.proofs.unfinished.UnfinishedSpan.exceptions.Goals as goal

pub loop-i-init : goal.loop-i-init
loop-i-init c = raised_all _

pub loop-i-preserved : goal.loop-i-preserved
loop-i-preserved c =
    let h : c.loop-i.i < rows_in c.args.self.now.block.now = omega (arith, c.loop-i-test.true, c.read-i-end.ensures) in
    raised_more _ _ _ _ c.loop-i.invariant h c.in_ok-exception_at.ensures

pub returns-in_err-exception_at : goal.returns-in_err-exception_at
returns-in_err-exception_at c =
    let h : c.loop-i.i < rows_in c.args.self.now.block.now = omega (arith, c.loop-i-test.true, c.read-i-end.ensures) in
    step_failed _ _ _ _ c.from_residual.ensures.0 (raised_stop _ _ _ _ c.loop-i.invariant h c.in_err-exception_at.ensures)

pub returns : goal.returns
returns c =
    let h : rows_in c.args.self.now.block.now ≤ c.loop-i.i = omega (arith, c.loop-i-test.false, c.read-i-end.ensures) in
    raised_end _ _ _ h c.loop-i.invariant
