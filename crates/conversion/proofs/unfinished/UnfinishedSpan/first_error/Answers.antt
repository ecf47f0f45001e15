use Rattle.std.proofs.Common.{rules}
use Rattle.conversion.specs.Steps.{first_error}
use Rattle.conversion.proofs.unfinished.UnfinishedSpan.first_error.Goals as goal

pub returns : goal.returns
unfolding first_error
returns c = search rules
