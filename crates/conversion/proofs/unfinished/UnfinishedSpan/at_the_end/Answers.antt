use Rattle.std.proofs.Common.{length}
use Rattle.blocks.specs.Facts.{facts}
use Rattle.conversion.specs.Steps.{end_texts, last_error, at_the_end}
use Rattle.conversion.proofs.Chains.{made_then, fail_then, step_then, stopped}
use Rattle.conversion.proofs.ChainLemmas.{after_at_the_end_0, after_at_the_end_1}
use Rattle.conversion.proofs.unfinished.UnfinishedSpan.at_the_end.Goals as goal

pub returns-in_err-has_exception : goal.returns-in_err-has_exception
unfolding at_the_end
returns-in_err-has_exception c =
    stopped _ _ _ _ _ c.from_residual.ensures.0 c.in_err-has_exception.ensures (after_at_the_end_0 (length c.args.self.now.meta.now) (facts c.args.self.now.block.now) _)

pub returns-in_err-end_texts : goal.returns-in_err-end_texts
unfolding at_the_end
returns-in_err-end_texts c =
    let a0 = c.in_ok-has_exception.ensures in
    stopped _ _ _ _ _ c.from_residual-in_err-end_texts.ensures.0 (fail_then (λ n m s. end_texts n (facts m) s) _ _ _ _ a0 c.in_err-end_texts.ensures) (after_at_the_end_1 (length c.args.self.now.meta.now) (facts c.args.self.now.block.now) _)

pub returns : goal.returns
unfolding at_the_end
returns c =
    let a0 = c.in_ok-has_exception.ensures in
    let a1 = made_then (λ n m s. end_texts n (facts m) s) _ _ _ _ a0 c.in_ok-end_texts.ensures in
    step_then (λ n m s. last_error n (facts m) s) _ _ _ _ _ a1 c.last_error.ensures
