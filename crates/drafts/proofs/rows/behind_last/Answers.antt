use Rattle.std.proofs.Common.{◌≡◌, ◌+◌, ◌-◌, ◌<◌, drop, ap, ◌∙◌, arith, rules}
use Rattle.blocks.specs.Lists.{list_number}
use Rattle.blocks.specs.Layout.{rows_in}
use Rattle.blocks.specs.Faults.{list_in}
use Rattle.blocks.specs.Facts.{row_facts}
use Rattle.drafts.specs.Search.{count}
use Rattle.drafts.proofs.Places.{count_none, count-here, count-not, count-from}
use Rattle.drafts.proofs.rows.behind_last.Goals as goal

pub loop-i-init : goal.loop-i-init
loop-i-init c = (omega arith, count_none c.args.m.now (list_number c.args.list) _ (omega arith))

pub returns-then-list_at-from-clause-some : goal.returns-then-list_at-from-clause-some
returns-then-list_at-from-clause-some c j h =
    let lt : c.loop-i.i - 1 < rows_in c.args.m.now = omega arith in
    let e : list_in c.args.m.now (c.loop-i.i - 1) ≡ list_number c.args.list = search rules in
    let z = count-here c.args.m.now (list_number c.args.list) (c.loop-i.i - 1) lt e in
    let y = count-from (list_number c.args.list) (row_facts c.args.m.now) j (c.loop-i.i - 1) (omega arith) in
    omega arith

pub loop-i-preserved : goal.loop-i-preserved
loop-i-preserved c =
    let lt : c.loop-i.i - 1 < rows_in c.args.m.now = omega arith in
    let s : c.loop-i.i - 1 + 1 ≡ c.loop-i.i = omega arith in
    let z = count-not c.args.m.now (list_number c.args.list) (c.loop-i.i - 1) lt (λ e. search rules) in
    (omega arith, z ∙ ap (λ i. count (list_number c.args.list) (drop i (row_facts c.args.m.now))) s ∙ c.loop-i.invariant.1)
