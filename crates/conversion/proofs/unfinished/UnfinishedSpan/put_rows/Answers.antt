use Rattle.std.proofs.Common.{◌<◌, ◌≤◌, arith}
use Rattle.blocks.specs.Layout.{rows_in}
use Rattle.conversion.proofs.Chains.{step_failed}
use Rattle.conversion.proofs.Turns.{turned_all, turned_more, turned_stop, turned_end}
use Rattle.conversion.proofs.unfinished.UnfinishedSpan.put_rows.Goals as goal

pub loop-i-init : goal.loop-i-init
loop-i-init c = turned_all _ _

pub loop-i-preserved : goal.loop-i-preserved
loop-i-preserved c =
    let h : c.loop-i.i < rows_in c.args.self.now.block.now = omega (arith, c.loop-i-test.true, c.read-i-end.ensures) in
    turned_more _ _ _ _ _ c.loop-i.invariant h c.in_ok-put_row_at.ensures

pub returns-in_err-put_row_at : goal.returns-in_err-put_row_at
returns-in_err-put_row_at c =
    let h : c.loop-i.i < rows_in c.args.self.now.block.now = omega (arith, c.loop-i-test.true, c.read-i-end.ensures) in
    step_failed _ _ _ _ c.from_residual.ensures.0 (turned_stop _ _ _ _ _ c.loop-i.invariant h c.in_err-put_row_at.ensures)

pub returns : goal.returns
returns c =
    let h : rows_in c.args.self.now.block.now ≤ c.loop-i.i = omega (arith, c.loop-i-test.false, c.read-i-end.ensures) in
    turned_end _ _ _ _ h c.loop-i.invariant
