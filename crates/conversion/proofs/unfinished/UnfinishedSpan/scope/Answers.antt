use Rattle.std.proofs.Common.{length, codes}
use Rattle.blocks.specs.Facts.{facts}
use Rattle.conversion.specs.Steps.{put_given, scope}
use Rattle.conversion.specs.Spans.{quoted, lent}
use Rattle.conversion.proofs.Chains.{step_then, stopped}
use Rattle.conversion.proofs.OwnLemmas.{after_scope_0}
use Rattle.conversion.proofs.unfinished.UnfinishedSpan.scope.Goals as goal

pub returns-in_err-put_given : goal.returns-in_err-put_given
unfolding scope
returns-in_err-put_given c =
    stopped _ _ _ _ _ c.from_residual.ensures.0 (rw c.header_form-name.ensures at c.in_err-put_given.ensures) (after_scope_0 (length c.args.self.now.meta.now) (facts c.args.self.now.block.now) _)

pub returns : goal.returns
unfolding scope
returns c =
    let a0 = (rw c.header_form-name.ensures at c.in_ok-put_given.ensures) in
    step_then (λ n m s. put_given n (quoted (codes "otel.scope.version")) (lent ((facts m)).scope_version) s) _ _ _ _ _ a0 (rw c.header_form-version.ensures at c.put_given-2.ensures)
