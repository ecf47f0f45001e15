use Rattle.conversion.proofs.Held.{held_placed}
use Rattle.conversion.proofs.unfinished.UnfinishedSpan.hold_form.Goals as goal

pub returns-in-Shown-clause-step : goal.returns-in-Shown-clause-step
returns-in-Shown-clause-step c = rw (c.in-Shown.is, held_placed) c.place_shown.ensures.step
