use Rattle.std.proofs.Common.{take}
use Rattle.conversion.proofs.TableLemmas.{metric_there, metric_missing}
use Rattle.conversion.proofs.dd_span.DdSpan.metric.Goals as goal

pub returns-in-Some : goal.returns-in-Some
returns-in-Some c = let s = c.args.self.now.made in metric_there s.block.now s.arena.now c.args.i (take s.metrics_len s.metrics) _ _ _ c.row_at.ensures c.in-Some.is c.piece_bytes.ensures

pub returns-in-None : goal.returns-in-None
returns-in-None c = let s = c.args.self.now.made in metric_missing s.block.now s.arena.now c.args.i (take s.metrics_len s.metrics) _ c.row_at.ensures c.in-None.is
