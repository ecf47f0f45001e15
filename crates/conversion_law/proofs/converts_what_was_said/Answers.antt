use Rattle.conversion_law.proofs.Answered.{held_lem, alike_lem, ordered_lem, edition_lem, readers_lem}
use Rattle.conversion_law.proofs.converts_what_was_said.Goals as goal

pub returns-clause-held : goal.returns-clause-held
returns-clause-held g c = held_lem c.blocks_hold.ensures

pub returns-clause-alike : goal.returns-clause-alike
returns-clause-alike g c = alike_lem c.blocks_hold.ensures c.converts_alike.ensures c.never_full.ensures

pub returns-clause-ordered : goal.returns-clause-ordered
returns-clause-ordered g c = ordered_lem c.blocks_hold.ensures c.any_order.ensures c.never_full.ensures

pub returns-clause-edition : goal.returns-clause-edition
returns-clause-edition g c = edition_lem c.blocks_hold.ensures c.later_differs.ensures.piles c.never_full.ensures

pub returns-clause-readers : goal.returns-clause-readers
returns-clause-readers g c = readers_lem (g.A.OtelSpan.reading c.args.a.now) (g.B.OtelSpan.reading c.args.b.now)
