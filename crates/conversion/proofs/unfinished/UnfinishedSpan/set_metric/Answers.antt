use Rattle.std.proofs.Common.{◌<◌, ℕ, List, length, refl, ap, arith}
use Rattle.conversion.specs.Spans.{Text}
use Rattle.conversion.specs.Pieces.{metric_pair, metric_end, no_metric}
use Rattle.conversion.specs.Tables.{set_metric}
use Rattle.conversion.specs.View.{view}
use Rattle.conversion.proofs.TableLemmas.{set_pairs, set_pairs_past, set_end, set_table}
use Rattle.conversion.proofs.unfinished.UnfinishedSpan.set_metric.Goals as goal

pub invariant_of-self-clause-table : goal.invariant_of-self-clause-table
invariant_of-self-clause-table c = let s = c.args.self.now in set_table metric_end no_metric s.metrics c.args.i _ 130 s.table

pub invariant_of-self-clause-metrics_held : goal.invariant_of-self-clause-metrics_held
invariant_of-self-clause-metrics_held c =
    let s = c.args.self.now in
    set_end metric_end no_metric s.metrics s.metrics_len c.args.i _ s.used s.metrics_held (λ l m h. let v = c.requires in omega arith)

pub returns-then-i-self : goal.returns-then-i-self
unfolding set_metric
returns-then-i-self c =
    let s = c.args.self.now in
    let l : c.args.i < length s.metrics = let r = s.rows in omega arith in
    record {
      kept = record { block = refl; room = refl; rows = refl; meta_name = refl; arena_name = refl };
      is = ap (λ (m : List (Text × ℕ)). record (view s) { metrics = m }) (set_pairs (metric_pair s.block.now s.arena.now) no_metric s.metrics s.metrics_len c.args.i _ _ c.if-i-self.true l refl);
    }

pub returns-else-i-self : goal.returns-else-i-self
unfolding set_metric
returns-else-i-self c =
    let s = c.args.self.now in
    record {
      kept = record { block = refl; room = refl; rows = refl; meta_name = refl; arena_name = refl };
      is = ap (λ (m : List (Text × ℕ)). record (view s) { metrics = m }) (set_pairs_past (metric_pair s.block.now s.arena.now) no_metric s.metrics s.metrics_len c.args.i _ c.if-i-self.false);
    }
