use Rattle.derived.proofs.Filling.{cleared}
use Rattle.derived.proofs.texts.clear_behind.Goals as goal

pub returns : goal.returns
returns c = cleared c.behind.result _ _ _ _ _ c.told-out c.behind.ensures.len c.behind.ensures.memory c.finish.ensures.len c.finish.ensures.text
