use Rattle.std.proofs.Common.{rules}
use Rattle.conversion.specs.Steps.{put_sampling}
use Rattle.conversion.proofs.unfinished.UnfinishedSpan.put_sampling.Goals as goal

pub returns-in-Some-true : goal.returns-in-Some-true
unfolding put_sampling
returns-in-Some-true c = search (rules)

pub returns-in-Some-false : goal.returns-in-Some-false
unfolding put_sampling
returns-in-Some-false c = search (rules)

pub returns-in-None : goal.returns-in-None
unfolding put_sampling
returns-in-None c = search (rules)
