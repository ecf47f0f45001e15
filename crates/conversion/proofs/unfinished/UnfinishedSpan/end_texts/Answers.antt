use Rattle.std.proofs.Common.{length}
use Rattle.blocks.specs.Facts.{facts}
use Rattle.conversion.specs.Steps.{scope, status, end_texts}
use Rattle.conversion.proofs.Chains.{made_then, fail_then, step_then, stopped}
use Rattle.conversion.proofs.ChainLemmas.{after_end_texts_0, after_end_texts_1}
use Rattle.conversion.proofs.unfinished.UnfinishedSpan.end_texts.Goals as goal

pub returns-in_err-trace_state : goal.returns-in_err-trace_state
unfolding end_texts
returns-in_err-trace_state c =
    stopped _ _ _ _ _ c.from_residual.ensures.0 c.in_err-trace_state.ensures (after_end_texts_0 (length c.args.self.now.meta.now) (facts c.args.self.now.block.now) _)

pub returns-in_err-scope : goal.returns-in_err-scope
unfolding end_texts
returns-in_err-scope c =
    let a0 = c.in_ok-trace_state.ensures in
    stopped _ _ _ _ _ c.from_residual-in_err-scope.ensures.0 (fail_then (λ n m s. scope n ((facts m)) s) _ _ _ _ a0 c.in_err-scope.ensures) (after_end_texts_1 (length c.args.self.now.meta.now) (facts c.args.self.now.block.now) _)

pub returns : goal.returns
unfolding end_texts
returns c =
    let a0 = c.in_ok-trace_state.ensures in
    let a1 = made_then (λ n m s. scope n ((facts m)) s) _ _ _ _ a0 c.in_ok-scope.ensures in
    step_then (λ n m s. status n ((facts m)) s) _ _ _ _ _ a1 c.status.ensures
