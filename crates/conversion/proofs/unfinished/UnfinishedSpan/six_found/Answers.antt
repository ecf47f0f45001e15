use Rattle.std.proofs.Common.{length, codes}
use Rattle.blocks.specs.Facts.{facts}
use Rattle.conversion.specs.Steps.{own_meta, six_own}
use Rattle.conversion.proofs.Chains.{made_then, fail_then, step_then, stopped}
use Rattle.conversion.proofs.OwnLemmas.{after_six_own_0, after_six_own_1, after_six_own_2, after_six_own_3, after_six_own_4}
use Rattle.conversion.proofs.unfinished.UnfinishedSpan.six_found.Goals as goal

pub returns-in_err-own_meta : goal.returns-in_err-own_meta
unfolding six_own
returns-in_err-own_meta c =
    stopped _ _ _ _ _ c.from_residual.ensures.0 c.in_err-own_meta.ensures (after_six_own_0 (length c.args.self.now.meta.now) (facts c.args.self.now.block.now) _)

pub returns-in_err-own_meta-2 : goal.returns-in_err-own_meta-2
unfolding six_own
returns-in_err-own_meta-2 c =
    let a0 = c.in_ok-own_meta.ensures in
    stopped _ _ _ _ _ c.from_residual-in_err-own_meta-2.ensures.0 (fail_then (λ n m s. own_meta n (facts m) (codes "datadog.version") (codes "version") s) _ _ _ _ a0 c.in_err-own_meta-2.ensures) (after_six_own_1 (length c.args.self.now.meta.now) (facts c.args.self.now.block.now) _)

pub returns-in_err-own_meta-3 : goal.returns-in_err-own_meta-3
unfolding six_own
returns-in_err-own_meta-3 c =
    let a0 = c.in_ok-own_meta.ensures in
    let a1 = made_then (λ n m s. own_meta n (facts m) (codes "datadog.version") (codes "version") s) _ _ _ _ a0 c.in_ok-own_meta-2.ensures in
    stopped _ _ _ _ _ c.from_residual-in_err-own_meta-3.ensures.0 (fail_then (λ n m s. own_meta n (facts m) (codes "datadog.http_status_code") (codes "http.status_code") s) _ _ _ _ a1 c.in_err-own_meta-3.ensures) (after_six_own_2 (length c.args.self.now.meta.now) (facts c.args.self.now.block.now) _)

pub returns-in_err-own_meta-4 : goal.returns-in_err-own_meta-4
unfolding six_own
returns-in_err-own_meta-4 c =
    let a0 = c.in_ok-own_meta.ensures in
    let a1 = made_then (λ n m s. own_meta n (facts m) (codes "datadog.version") (codes "version") s) _ _ _ _ a0 c.in_ok-own_meta-2.ensures in
    let a2 = made_then (λ n m s. own_meta n (facts m) (codes "datadog.http_status_code") (codes "http.status_code") s) _ _ _ _ a1 c.in_ok-own_meta-3.ensures in
    stopped _ _ _ _ _ c.from_residual-in_err-own_meta-4.ensures.0 (fail_then (λ n m s. own_meta n (facts m) (codes "datadog.error.msg") (codes "error.message") s) _ _ _ _ a2 c.in_err-own_meta-4.ensures) (after_six_own_3 (length c.args.self.now.meta.now) (facts c.args.self.now.block.now) _)

pub returns-in_err-own_meta-5 : goal.returns-in_err-own_meta-5
unfolding six_own
returns-in_err-own_meta-5 c =
    let a0 = c.in_ok-own_meta.ensures in
    let a1 = made_then (λ n m s. own_meta n (facts m) (codes "datadog.version") (codes "version") s) _ _ _ _ a0 c.in_ok-own_meta-2.ensures in
    let a2 = made_then (λ n m s. own_meta n (facts m) (codes "datadog.http_status_code") (codes "http.status_code") s) _ _ _ _ a1 c.in_ok-own_meta-3.ensures in
    let a3 = made_then (λ n m s. own_meta n (facts m) (codes "datadog.error.msg") (codes "error.message") s) _ _ _ _ a2 c.in_ok-own_meta-4.ensures in
    stopped _ _ _ _ _ c.from_residual-in_err-own_meta-5.ensures.0 (fail_then (λ n m s. own_meta n (facts m) (codes "datadog.error.type") (codes "error.type") s) _ _ _ _ a3 c.in_err-own_meta-5.ensures) (after_six_own_4 (length c.args.self.now.meta.now) (facts c.args.self.now.block.now) _)

pub returns : goal.returns
unfolding six_own
returns c =
    let a0 = c.in_ok-own_meta.ensures in
    let a1 = made_then (λ n m s. own_meta n (facts m) (codes "datadog.version") (codes "version") s) _ _ _ _ a0 c.in_ok-own_meta-2.ensures in
    let a2 = made_then (λ n m s. own_meta n (facts m) (codes "datadog.http_status_code") (codes "http.status_code") s) _ _ _ _ a1 c.in_ok-own_meta-3.ensures in
    let a3 = made_then (λ n m s. own_meta n (facts m) (codes "datadog.error.msg") (codes "error.message") s) _ _ _ _ a2 c.in_ok-own_meta-4.ensures in
    let a4 = made_then (λ n m s. own_meta n (facts m) (codes "datadog.error.type") (codes "error.type") s) _ _ _ _ a3 c.in_ok-own_meta-5.ensures in
    step_then (λ n m s. own_meta n (facts m) (codes "datadog.error.stack") (codes "error.stack") s) _ _ _ _ _ a4 c.own_meta-6.ensures
