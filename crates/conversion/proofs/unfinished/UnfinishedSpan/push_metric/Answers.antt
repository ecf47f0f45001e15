use Rattle.std.proofs.Common.{ℕ, List, refl, ap, arith}
use Rattle.conversion.specs.Spans.{Text}
use Rattle.conversion.specs.Pieces.{metric_pair, metric_end, no_metric}
use Rattle.conversion.specs.Tables.{push_metric}
use Rattle.conversion.specs.View.{view}
use Rattle.conversion.proofs.TableLemmas.{push_pairs_in, push_pairs_full_in, push_end, set_table}
use Rattle.conversion.proofs.unfinished.UnfinishedSpan.push_metric.Goals as goal

pub invariant_of-self-clause-table : goal.invariant_of-self-clause-table
invariant_of-self-clause-table c = let s = c.args.self.now in set_table metric_end no_metric s.metrics s.metrics_len _ 130 s.table

pub invariant_of-self-clause-metrics_held : goal.invariant_of-self-clause-metrics_held
invariant_of-self-clause-metrics_held c =
    let s = c.args.self.now in
    push_end metric_end no_metric s.metrics s.metrics_len _ s.used (let t = s.table in let l = c.if-n-lt-METRICS.true in omega arith) s.metrics_held c.requires

pub returns-then-n-lt-METRICS : goal.returns-then-n-lt-METRICS
unfolding push_metric
returns-then-n-lt-METRICS c =
    let s = c.args.self.now in
    record {
      kept = record { block = refl; room = refl; rows = refl; meta_name = refl; arena_name = refl };
      is = ap (λ (m : List (Text × ℕ)). record (view s) { metrics = m }) (push_pairs_in (metric_pair s.block.now s.arena.now) no_metric s.metrics s.metrics_len 130 s.table _ c.if-n-lt-METRICS.true);
    }

pub returns-else-n-lt-METRICS : goal.returns-else-n-lt-METRICS
unfolding push_metric
returns-else-n-lt-METRICS c =
    let s = c.args.self.now in
    record {
      kept = record { block = refl; room = refl; rows = refl; meta_name = refl; arena_name = refl };
      is = ap (λ (m : List (Text × ℕ)). record (view s) { metrics = m }) (push_pairs_full_in (metric_pair s.block.now s.arena.now) no_metric s.metrics s.metrics_len 130 s.table _ s.counts c.if-n-lt-METRICS.false);
    }
