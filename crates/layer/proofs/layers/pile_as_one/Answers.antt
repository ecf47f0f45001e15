use Rattle.layer.proofs.Piles.{as-one}
use Rattle.layer.proofs.layers.pile_as_one.Goals as goal

pub returns : goal.returns
returns g c = as-one (g.S.OtelSpan.reading c.args.span.now)
