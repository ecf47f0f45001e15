use Rattle.layer.proofs.Piles.{keeps}
use Rattle.layer.proofs.layers.pile_keeps.Goals as goal

pub returns : goal.returns
returns g c = keeps (g.S.OtelSpan.reading c.args.span.now)
