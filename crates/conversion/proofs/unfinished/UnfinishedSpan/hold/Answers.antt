use Rattle.std.proofs.Common.{refl, sym}
use Rattle.conversion.proofs.Held.{held_quoted, held_lent, held_placed}
use Rattle.conversion.proofs.unfinished.UnfinishedSpan.hold.Goals as goal

pub returns-in-Quoted-clause-step : goal.returns-in-Quoted-clause-step
returns-in-Quoted-clause-step c = rw c.in-Quoted.is (record { kept = record { block = refl; room = refl; rows = refl; meta_name = refl; arena_name = refl }; is = sym (held_quoted _ _) })

pub returns-in-Lent-clause-step : goal.returns-in-Lent-clause-step
returns-in-Lent-clause-step c = rw c.in-Lent.is (record { kept = record { block = refl; room = refl; rows = refl; meta_name = refl; arena_name = refl }; is = sym (held_lent _ _) })

pub returns-in-Placed-clause-step : goal.returns-in-Placed-clause-step
returns-in-Placed-clause-step c = rw (c.in-Placed.is, held_placed) c.place.ensures.step
