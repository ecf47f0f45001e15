use Rattle.conversion.specs.Steps.{trace_state}
use Rattle.conversion.proofs.unfinished.UnfinishedSpan.trace_state.Goals as goal

pub returns : goal.returns
unfolding trace_state
returns c = rw (← c.header_form-value.ensures) c.put_given.ensures
