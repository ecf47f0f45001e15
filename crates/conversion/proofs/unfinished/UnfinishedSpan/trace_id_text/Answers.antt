use Rattle.std.proofs.Common.{◌∙◌}
use Rattle.conversion.specs.Steps.{trace_id}
use Rattle.conversion.proofs.unfinished.UnfinishedSpan.trace_id_text.Goals as goal

pub returns : goal.returns
unfolding trace_id
returns c = rw (c.part.ensures ∙ c.write_trace_id-n.ensures) at c.put_meta.ensures
