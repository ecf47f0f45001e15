use Rattle.std.proofs.Common.{length}
use Rattle.std.proofs.lemmas.Result.{IfOk-from_err}
use Rattle.blocks.specs.Facts.{facts}
use Rattle.conversion.specs.Steps.{of_resource_and_scope, of_span, at_the_end, steps_from}
use Rattle.conversion.proofs.Chains.{made_then, fail_then, step_failed, stopped}
use Rattle.conversion.proofs.ChainLemmas.{after_fill_0, after_fill_1, after_fill_2}
use Rattle.conversion.proofs.Lying.{at_end}
use Rattle.conversion.proofs.unfinished.UnfinishedSpan.fill.Goals as goal

pub returns-in_err-minimal : goal.returns-in_err-minimal
unfolding steps_from
returns-in_err-minimal g c =
    let r = g.R.OtelSpan.reading c.args.reader.now in
    record {
      step = stopped _ _ _ _ _ c.from_residual.ensures.0 c.in_err-minimal.ensures (after_fill_0 (length c.args.self.now.meta.now) (facts c.args.self.now.block.now) r _);
      at = IfOk-from_err _ _ c.from_residual.ensures.0;
    }

pub returns-in_err-of_resource_and_scope : goal.returns-in_err-of_resource_and_scope
unfolding steps_from
returns-in_err-of_resource_and_scope g c =
    let r = g.R.OtelSpan.reading c.args.reader.now in
    let a0 = c.in_ok-minimal.ensures in
    record {
      step = stopped _ _ _ _ _ c.from_residual-in_err-of_resource_and_scope.ensures.0 (fail_then (λ n m s. of_resource_and_scope n (facts m) s) _ _ _ _ a0 c.in_err-of_resource_and_scope.ensures) (after_fill_1 (length c.args.self.now.meta.now) (facts c.args.self.now.block.now) r _);
      at = IfOk-from_err _ _ c.from_residual-in_err-of_resource_and_scope.ensures.0;
    }

pub returns-in_err-at : goal.returns-in_err-at
unfolding steps_from
returns-in_err-at g c =
    let r = g.R.OtelSpan.reading c.args.reader.now in
    let a0 = c.in_ok-minimal.ensures in
    let a1 = made_then (λ n m s. of_resource_and_scope n (facts m) s) _ _ _ _ a0 c.in_ok-of_resource_and_scope.ensures in
    record {
      step = stopped _ _ _ _ _ c.from_residual-in_err-at.ensures.0 (fail_then (λ n m s. of_span n (facts m) r s) _ _ _ _ a1 c.in_err-at.ensures.step) (after_fill_2 (length c.args.self.now.meta.now) (facts c.args.self.now.block.now) r _);
      at = IfOk-from_err _ _ c.from_residual-in_err-at.ensures.0;
    }

pub returns-in_err-at_the_end : goal.returns-in_err-at_the_end
unfolding steps_from
returns-in_err-at_the_end g c =
    let r = g.R.OtelSpan.reading c.args.reader.now in
    let a0 = c.in_ok-minimal.ensures in
    let a1 = made_then (λ n m s. of_resource_and_scope n (facts m) s) _ _ _ _ a0 c.in_ok-of_resource_and_scope.ensures in
    let a2 = made_then (λ n m s. of_span n (facts m) r s) _ _ _ _ a1 c.in_ok-at.ensures.step in
    record {
      step = step_failed _ _ _ _ c.from_residual-in_err-at_the_end.ensures.0 (fail_then (λ n m s. at_the_end n (facts m) s) _ _ _ _ a2 c.in_err-at_the_end.ensures);
      at = IfOk-from_err _ _ c.from_residual-in_err-at_the_end.ensures.0;
    }

pub returns : goal.returns
unfolding steps_from
returns g c =
    let r = g.R.OtelSpan.reading c.args.reader.now in
    let a0 = c.in_ok-minimal.ensures in
    let a1 = made_then (λ n m s. of_resource_and_scope n (facts m) s) _ _ _ _ a0 c.in_ok-of_resource_and_scope.ensures in
    let a2 = made_then (λ n m s. of_span n (facts m) r s) _ _ _ _ a1 c.in_ok-at.ensures.step in
    record {
      step = made_then (λ n m s. at_the_end n (facts m) s) _ _ _ _ a2 c.in_ok-at_the_end.ensures;
      at = at_end _ _ _ _ c.in_ok-at_the_end.ensures c.in_ok-at.ensures.at;
    }
