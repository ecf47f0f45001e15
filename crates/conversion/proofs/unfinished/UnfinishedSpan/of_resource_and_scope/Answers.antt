use Rattle.std.proofs.Common.{length}
use Rattle.blocks.specs.Facts.{facts}
use Rattle.blocks.specs.Projections.{of_list}
use Rattle.blocks.specs.declared.lists.PlainList.TheVariants.{Resource, Scope}
use Rattle.conversion.specs.RowSteps.{row_step}
use Rattle.conversion.specs.Steps.{each, trace_id, version, of_resource_and_scope}
use Rattle.conversion.proofs.Chains.{made_then, fail_then, step_then, stopped}
use Rattle.conversion.proofs.ChainLemmas.{after_of_resource_and_scope_0, after_of_resource_and_scope_1, after_of_resource_and_scope_2, after_of_resource_and_scope_3}
use Rattle.conversion.proofs.unfinished.UnfinishedSpan.of_resource_and_scope.Goals as goal

pub returns-in_err-six_own : goal.returns-in_err-six_own
unfolding of_resource_and_scope
returns-in_err-six_own c =
    stopped _ _ _ _ _ c.from_residual.ensures.0 c.in_err-six_own.ensures (after_of_resource_and_scope_0 (length c.args.self.now.meta.now) (facts c.args.self.now.block.now) _)

pub returns-in_err-put_rows : goal.returns-in_err-put_rows
unfolding of_resource_and_scope
returns-in_err-put_rows c =
    let a0 = c.in_ok-six_own.ensures in
    stopped _ _ _ _ _ c.from_residual-in_err-put_rows.ensures.0 (fail_then (λ n m s. each (row_step n Resource) (of_list 1 ((facts m)).rows) s) _ _ _ _ a0 c.in_err-put_rows.ensures) (after_of_resource_and_scope_1 (length c.args.self.now.meta.now) (facts c.args.self.now.block.now) _)

pub returns-in_err-put_rows-2 : goal.returns-in_err-put_rows-2
unfolding of_resource_and_scope
returns-in_err-put_rows-2 c =
    let a0 = c.in_ok-six_own.ensures in
    let a1 = made_then (λ n m s. each (row_step n Resource) (of_list 1 ((facts m)).rows) s) _ _ _ _ a0 c.in_ok-put_rows.ensures in
    stopped _ _ _ _ _ c.from_residual-in_err-put_rows-2.ensures.0 (fail_then (λ n m s. each (row_step n Scope) (of_list 2 ((facts m)).rows) s) _ _ _ _ a1 c.in_err-put_rows-2.ensures) (after_of_resource_and_scope_2 (length c.args.self.now.meta.now) (facts c.args.self.now.block.now) _)

pub returns-in_err-trace_id_text : goal.returns-in_err-trace_id_text
unfolding of_resource_and_scope
returns-in_err-trace_id_text c =
    let a0 = c.in_ok-six_own.ensures in
    let a1 = made_then (λ n m s. each (row_step n Resource) (of_list 1 ((facts m)).rows) s) _ _ _ _ a0 c.in_ok-put_rows.ensures in
    let a2 = made_then (λ n m s. each (row_step n Scope) (of_list 2 ((facts m)).rows) s) _ _ _ _ a1 c.in_ok-put_rows-2.ensures in
    stopped _ _ _ _ _ c.from_residual-in_err-trace_id_text.ensures.0 (fail_then (λ n m s. trace_id n ((facts m)) s) _ _ _ _ a2 c.in_err-trace_id_text.ensures) (after_of_resource_and_scope_3 (length c.args.self.now.meta.now) (facts c.args.self.now.block.now) _)

pub returns : goal.returns
unfolding of_resource_and_scope
returns c =
    let a0 = c.in_ok-six_own.ensures in
    let a1 = made_then (λ n m s. each (row_step n Resource) (of_list 1 ((facts m)).rows) s) _ _ _ _ a0 c.in_ok-put_rows.ensures in
    let a2 = made_then (λ n m s. each (row_step n Scope) (of_list 2 ((facts m)).rows) s) _ _ _ _ a1 c.in_ok-put_rows-2.ensures in
    let a3 = made_then (λ n m s. trace_id n ((facts m)) s) _ _ _ _ a2 c.in_ok-trace_id_text.ensures in
    step_then (λ n m s. version n ((facts m)) s) _ _ _ _ _ a3 c.version.ensures
