use Rattle.std.proofs.Common.{length, rules}
use Rattle.std.proofs.lemmas.Result.{IfOk-from_err}
use Rattle.blocks.specs.Facts.{facts}
use Rattle.conversion.specs.Steps.{env, links, of_span}
use Rattle.conversion.proofs.Chains.{made_then, fail_then, step_failed, stopped}
use Rattle.conversion.proofs.ChainLemmas.{after_of_span_0, after_of_span_1}
use Rattle.conversion.proofs.Lying.{at_links}
use Rattle.conversion.proofs.unfinished.UnfinishedSpan.of_span.Goals as goal

pub returns-in_err-put_rows : goal.returns-in_err-put_rows
unfolding of_span
returns-in_err-put_rows g c =
    let r = g.R.OtelSpan.reading c.args.reader.now in
    record {
      step = stopped _ _ _ _ _ c.from_residual.ensures.0 c.in_err-put_rows.ensures (after_of_span_0 (length c.args.self.now.meta.now) (facts c.args.self.now.block.now) r _);
      at = IfOk-from_err _ _ c.from_residual.ensures.0;
    }

pub returns-in_err-env : goal.returns-in_err-env
unfolding of_span
returns-in_err-env g c =
    let r = g.R.OtelSpan.reading c.args.reader.now in
    let a0 = c.in_ok-put_rows.ensures in
    record {
      step = stopped _ _ _ _ _ c.from_residual-in_err-env.ensures.0 (fail_then (λ n m s. env n r s) _ _ _ _ a0 c.in_err-env.ensures) (after_of_span_1 (length c.args.self.now.meta.now) (facts c.args.self.now.block.now) r _);
      at = IfOk-from_err _ _ c.from_residual-in_err-env.ensures.0;
    }

pub returns-in_err-links : goal.returns-in_err-links
unfolding of_span
returns-in_err-links g c =
    let r = g.R.OtelSpan.reading c.args.reader.now in
    let a0 = c.in_ok-put_rows.ensures in
    let a1 = made_then (λ n m s. env n r s) _ _ _ _ a0 c.in_ok-env.ensures in
    record {
      step = step_failed _ _ _ _ c.from_residual-in_err-links.ensures.0 (fail_then (λ n m s. links (facts m) s) _ _ _ _ a1 c.in_err-links.ensures);
      at = IfOk-from_err _ _ c.from_residual-in_err-links.ensures.0;
    }

pub returns : goal.returns
unfolding of_span
returns g c =
    let r = g.R.OtelSpan.reading c.args.reader.now in
    let a0 = c.in_ok-put_rows.ensures in
    let a1 = made_then (λ n m s. env n r s) _ _ _ _ a0 c.in_ok-env.ensures in
    record {
      step = made_then (λ n m s. links (facts m) s) _ _ _ _ a1 c.in_ok-links.ensures;
      at = at_links _ _ _ (search rules) c.in_ok-links.ensures;
    }
