use Rattle.std.proofs.lemmas.Bool.Decides.{Decides-at}
use Rattle.values.specs.Format.{meant}
use Rattle.conversion_sides.proofs.Values.{same_datum-Decides}
use Rattle.conversion_sides.proofs.same_values.same_value.Goals as goal

pub returns : goal.returns
returns c = Decides-at _ _ c.same_datum.ensures (same_datum-Decides (meant c.args.a) (meant c.args.b))
