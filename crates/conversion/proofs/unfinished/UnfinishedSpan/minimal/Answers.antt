use Rattle.std.proofs.Common.{ℕ, List}
use Rattle.blocks.specs.Facts.{facts}
use Rattle.conversion.specs.Spans.{Span}
use Rattle.conversion.specs.Steps.{minimal_from, first_error, span_kind, derived_texts, status_code, measured}
use Rattle.conversion.proofs.Chains.{made_then, fail_then, step_then, stopped}
use Rattle.conversion.proofs.MinimalLemmas.{after-own_texts, after-span_kind, after-derived_texts, grow-measured}
use Rattle.conversion.proofs.unfinished.UnfinishedSpan.minimal.Goals as goal

abbrev error : ℕ → List ℕ → Span → Span
error n b s = first_error (facts b) s

abbrev kind : ℕ → List ℕ → Span → Span
kind n b s = span_kind n (facts b) s

pub returns-in_err-own_texts : goal.returns-in_err-own_texts
unfolding minimal_from
returns-in_err-own_texts g c = stopped _ _ _ _ _ c.from_residual.ensures.0 c.in_err-own_texts.ensures (after-own_texts _ _ _ _)

pub returns-in_err-span_kind : goal.returns-in_err-span_kind
unfolding minimal_from
returns-in_err-span_kind g c =
    let a = made_then error _ _ _ _ c.in_ok-own_texts.ensures c.first_error.ensures in
    stopped _ _ _ _ _ c.from_residual-in_err-span_kind.ensures.0 (fail_then kind _ _ _ _ a c.in_err-span_kind.ensures) (after-span_kind _ _ _ _)

pub returns-in_err-derived_texts : goal.returns-in_err-derived_texts
unfolding minimal_from
returns-in_err-derived_texts g c =
    let a = made_then error _ _ _ _ c.in_ok-own_texts.ensures c.first_error.ensures in
    let b = made_then kind _ _ _ _ a c.in_ok-span_kind.ensures in
    stopped _ _ _ _ _ c.from_residual-in_err-derived_texts.ensures.0 (fail_then (λ n m s. derived_texts (g.R.OtelSpan.reading c.args.reader.now) s) _ _ _ _ b c.in_err-derived_texts.ensures) (after-derived_texts _ _ _ _)

pub returns-in_err-status_code : goal.returns-in_err-status_code
unfolding minimal_from
returns-in_err-status_code g c =
    let r = g.R.OtelSpan.reading c.args.reader.now in
    let a = made_then error _ _ _ _ c.in_ok-own_texts.ensures c.first_error.ensures in
    let b = made_then kind _ _ _ _ a c.in_ok-span_kind.ensures in
    let d = made_then (λ n m s. derived_texts r s) _ _ _ _ b c.in_ok-derived_texts.ensures in
    stopped _ _ _ _ _ c.from_residual-in_err-status_code.ensures.0 (fail_then (λ n m s. status_code n r s) _ _ _ _ d c.in_err-status_code.ensures) (grow-measured _ _)

pub returns : goal.returns
unfolding minimal_from
returns g c =
    let r = g.R.OtelSpan.reading c.args.reader.now in
    let a = made_then error _ _ _ _ c.in_ok-own_texts.ensures c.first_error.ensures in
    let b = made_then kind _ _ _ _ a c.in_ok-span_kind.ensures in
    let d = made_then (λ n m s. derived_texts r s) _ _ _ _ b c.in_ok-derived_texts.ensures in
    let e = made_then (λ n m s. status_code n r s) _ _ _ _ d c.in_ok-status_code.ensures in
    step_then (λ n m s. measured (facts m) s) _ _ _ _ _ e c.measured.ensures
