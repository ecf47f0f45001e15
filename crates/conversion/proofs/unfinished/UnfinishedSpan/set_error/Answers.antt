use Rattle.std.proofs.Common.{rules}
use Rattle.conversion.specs.Steps.{with_error}
use Rattle.conversion.proofs.unfinished.UnfinishedSpan.set_error.Goals as goal

pub returns : goal.returns
unfolding with_error
returns c = search rules
