use Rattle.blocks.specs.Lists.{list_number}
use Rattle.drafts.proofs.Places.{plain_owned, plain_unowned, by_events, by_links, by-none}
use Rattle.drafts.proofs.rows.run_start.Goals as goal

pub returns-in-Event-clause-same : goal.returns-in-Event-clause-same
returns-in-Event-clause-same c k =
    let e = c.behind_last.ensures in
    plain_owned (list_number c.args.list) 3 k c.args.m.now _ (by_events _ c.in-Event.is) e.within e.none e.some

pub returns-in-Link-clause-same : goal.returns-in-Link-clause-same
returns-in-Link-clause-same c k =
    let e = c.behind_last-in-Link.ensures in
    plain_owned (list_number c.args.list) 5 k c.args.m.now _ (by_links _ c.in-Link.is) e.within e.none e.some

pub returns-in_default-clause-same : goal.returns-in_default-clause-same
returns-in_default-clause-same c k =
    let n = c.in_default in
    plain_unowned (list_number c.args.list) k c.args.m.now (by-none c.args.list n.not-Event n.not-EventAttribute n.not-Link n.not-LinkAttribute)
