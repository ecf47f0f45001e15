use Rattle.conversion.specs.Steps.{span_kind}
use Rattle.conversion.proofs.unfinished.UnfinishedSpan.span_kind.Goals as goal

pub returns : goal.returns
unfolding span_kind
returns c = rw (← c.kind_form-kind.ensures) c.put_meta.ensures
