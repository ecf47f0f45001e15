use Rattle.std.proofs.Common.{refl}
use Rattle.derived.proofs.fields.own_or.Goals as goal

pub returns-in-None-clause-derived : goal.returns-in-None-clause-derived
returns-in-None-clause-derived g c = λ h. (c.given_text.new.out, record { shown = _; shows = refl; left = _; met = c.derive.ensures; leaves = refl })
