use Rattle.std.proofs.Common.{◌∙◌, sym, take}
use Rattle.std.specs.Str.{bytes_eq}
use Rattle.conversion.specs.Spans.{bytes_of}
use Rattle.conversion.specs.Pieces.{metric_pair}
use Rattle.conversion.proofs.TableLemmas.{position-map}
use Rattle.conversion.proofs.unfinished.UnfinishedSpan.find_metric.Goals as goal

pub returns : goal.returns
returns c =
    let s = c.args.self.now in
    c.find_number.ensures ∙ sym (position-map (λ p. bytes_eq (bytes_of p.0) c.args.key.now) (metric_pair s.block.now s.arena.now) (take s.metrics_len s.metrics))
