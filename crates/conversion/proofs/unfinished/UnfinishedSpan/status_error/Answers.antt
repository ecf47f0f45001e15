use Rattle.std.proofs.Common.{length, pos}
use Rattle.blocks.specs.Facts.{facts}
use Rattle.conversion.specs.Steps.{with_error}
use Rattle.conversion.proofs.Chains.{made_then, stopped}
use Rattle.conversion.proofs.MessageLemmas.{after_error_texts}
use Rattle.conversion.proofs.unfinished.UnfinishedSpan.status_error.Goals as goal

pub returns-in_err-error_texts : goal.returns-in_err-error_texts
returns-in_err-error_texts c =
    stopped _ _ _ _ _ c.from_residual.ensures.0 c.in_err-error_texts.ensures (after_error_texts (length c.args.self.now.meta.now) (facts c.args.self.now.block.now) _)

pub returns : goal.returns
returns c = made_then (λ n m s. with_error (pos 1) s) _ _ _ _ c.in_ok-error_texts.ensures c.set_error.ensures
