use Rattle.std.proofs.Common.{length, codes}
use Rattle.conversion.specs.Spans.{found}
use Rattle.conversion.specs.Events.{event_at}
use Rattle.conversion.specs.Steps.{put_found, exception_texts}
use Rattle.conversion.proofs.Chains.{made_then, fail_then, step_then, stopped}
use Rattle.conversion.proofs.EventLemmas.{after_exception_texts_0, after_exception_texts_1}
use Rattle.conversion.proofs.unfinished.UnfinishedSpan.exception_texts.Goals as goal

pub returns-in_err-exception_text : goal.returns-in_err-exception_text
unfolding exception_texts
returns-in_err-exception_text c =
    stopped _ _ _ _ _ c.from_residual.ensures.0 c.in_err-exception_text.ensures (after_exception_texts_0 (length c.args.self.now.meta.now) (event_at c.args.self.now.block.now c.args.i) _)

pub returns-in_err-exception_text-2 : goal.returns-in_err-exception_text-2
unfolding exception_texts
returns-in_err-exception_text-2 c =
    let a0 = c.in_ok-exception_text.ensures in
    stopped _ _ _ _ _ c.from_residual-in_err-exception_text-2.ensures.0 (fail_then (λ n m s. put_found n (codes "error.type") (found (codes "exception.type") (event_at m c.args.i).attributes) s) _ _ _ _ a0 c.in_err-exception_text-2.ensures) (after_exception_texts_1 (length c.args.self.now.meta.now) (event_at c.args.self.now.block.now c.args.i) _)

pub returns : goal.returns
unfolding exception_texts
returns c =
    let a0 = c.in_ok-exception_text.ensures in
    let a1 = made_then (λ n m s. put_found n (codes "error.type") (found (codes "exception.type") (event_at m c.args.i).attributes) s) _ _ _ _ a0 c.in_ok-exception_text-2.ensures in
    step_then (λ n m s. put_found n (codes "error.stack") (found (codes "exception.stacktrace") (event_at m c.args.i).attributes) s) _ _ _ _ _ a1 c.exception_text-3.ensures
