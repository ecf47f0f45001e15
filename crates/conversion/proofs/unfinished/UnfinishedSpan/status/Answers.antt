use Rattle.std.proofs.Common.{length, codes}
use Rattle.blocks.specs.Facts.{facts}
use Rattle.conversion.specs.Steps.{put_given, status, described}
use Rattle.conversion.specs.Spans.{quoted, lent}
use Rattle.conversion.proofs.Chains.{step_then, stopped}
use Rattle.conversion.proofs.OwnLemmas.{after_status_0}
use Rattle.conversion.proofs.unfinished.UnfinishedSpan.status.Goals as goal

pub returns-in_err-put_meta : goal.returns-in_err-put_meta
unfolding status
returns-in_err-put_meta c =
    stopped _ _ _ _ _ c.from_residual.ensures.0 (rw c.status_form-word.ensures at c.in_err-put_meta.ensures) (after_status_0 (length c.args.self.now.meta.now) (facts c.args.self.now.block.now) _)

pub returns : goal.returns
unfolding status
returns c =
    let a0 = (rw c.status_form-word.ensures at c.in_ok-put_meta.ensures) in
    step_then (λ n m s. put_given n (quoted (codes "otel.status_description")) (lent (described ((facts m)))) s) _ _ _ _ _ a0 (rw c.description_form-said.ensures at c.put_given.ensures)
