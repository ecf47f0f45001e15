use Rattle.std.proofs.Common.{length}
use Rattle.blocks.specs.Facts.{facts}
use Rattle.conversion.specs.Steps.{message}
use Rattle.conversion.proofs.Chains.{step_then, stopped}
use Rattle.conversion.proofs.MessageLemmas.{after_exceptions}
use Rattle.conversion.proofs.unfinished.UnfinishedSpan.error_texts.Goals as goal

pub returns-in_err-exceptions : goal.returns-in_err-exceptions
returns-in_err-exceptions c =
    stopped _ _ _ _ _ c.from_residual.ensures.0 c.in_err-exceptions.ensures (after_exceptions (length c.args.self.now.meta.now) (facts c.args.self.now.block.now) _)

pub returns : goal.returns
returns c = step_then (λ n m s. message n (facts m) s) _ _ _ _ _ c.in_ok-exceptions.ensures c.message.ensures
