use Rattle.derived.proofs.Filling.{whole}
use Rattle.derived.proofs.texts.fill.Goals as goal

pub returns : goal.returns
returns c = whole _ _ _ _ _ c.told-out c.args.text.short c.write_text.ensures
