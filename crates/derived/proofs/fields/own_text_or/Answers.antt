use Rattle.std.proofs.Common.{refl}
use Rattle.derived.proofs.Names.{none_offered, one_offered}
use Rattle.derived.proofs.fields.own_text_or.Goals as goal

pub returns-in-Some : goal.returns-in-Some
returns-in-Some g c = one_offered _ _ _ c.in-Some.ensures

pub returns-in-None : goal.returns-in-None
returns-in-None g c =
    none_offered _ _ _ c.in-None.ensures (c.own_text.new.out, record { shown = _; shows = refl; left = _; met = c.derive.ensures; leaves = refl })
