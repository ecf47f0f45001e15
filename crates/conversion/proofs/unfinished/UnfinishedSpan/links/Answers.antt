use Rattle.std.proofs.Common.{◌<◌, ◌≤◌, arith}
use Rattle.blocks.specs.Layout.{rows_in}
use Rattle.conversion.proofs.Chains.{step_failed}
use Rattle.conversion.proofs.LinkLemmas.{linked_all, linked_more, linked_stop, linked_end}
use Rattle.conversion.proofs.unfinished.UnfinishedSpan.links.Goals as goal

pub loop-i-init : goal.loop-i-init
loop-i-init c = linked_all _

pub loop-i-preserved : goal.loop-i-preserved
loop-i-preserved c =
    let h : c.loop-i.i < rows_in c.args.self.now.block.now = omega (arith, c.loop-i-test.true, c.read-i-end.ensures) in
    linked_more _ _ _ _ _ c.loop-i.invariant h _ c.in_ok-link_row.ensures c.or_link-below.ensures

pub returns-in_err-link_row : goal.returns-in_err-link_row
returns-in_err-link_row c =
    let h : c.loop-i.i < rows_in c.args.self.now.block.now = omega (arith, c.loop-i-test.true, c.read-i-end.ensures) in
    step_failed _ _ _ _ c.from_residual.ensures.0 (linked_stop _ _ _ _ _ c.loop-i.invariant h c.in_err-link_row.ensures)

pub returns : goal.returns
returns c =
    let h : rows_in c.args.self.now.block.now ≤ c.loop-i.i = omega (arith, c.loop-i-test.false, c.read-i-end.ensures) in
    linked_end _ _ _ _ h c.loop-i.invariant
