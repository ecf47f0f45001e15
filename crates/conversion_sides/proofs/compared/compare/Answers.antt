use Rattle.std.proofs.lemmas.Bool.Decides.{Decides-at}
use Rattle.conversion.specs.View.{shown}
use Rattle.conversion_sides.specs.Compared.{agrees}
use Rattle.conversion_sides.proofs.Agrees.{agrees-Decides}
use Rattle.conversion_sides.proofs.compared.compare.Goals as goal

pub returns-clause-agree : goal.returns-clause-agree
returns-clause-agree c u v =
    Decides-at _ _
    (λ i. agrees record {
      fields = c.fields_apart.ensures i;
      meta = c.apart.ensures i;
      metrics = c.apart-2.ensures i;
      links = c.owners_apart.ensures i;
      events = c.owners_apart-2.ensures i;
      meta_left_out = c.apart-3.ensures i;
      metrics_left_out = c.apart-4.ensures i;
    })
    (agrees-Decides (shown c.args.a.now) (shown c.args.b.now) u v)
