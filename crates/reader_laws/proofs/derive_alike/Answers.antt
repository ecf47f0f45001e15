use Rattle.reader_laws.proofs.Laws.{derive_alike_lem}
use Rattle.reader_laws.proofs.derive_alike.Goals as goal

pub returns : goal.returns
returns g c = derive_alike_lem (g.A.OtelSpan.reading c.args.a.now) (g.B.OtelSpan.reading c.args.b.now)
