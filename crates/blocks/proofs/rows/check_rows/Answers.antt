use Rattle.std.proofs.Common.{sym, arith, rules}
use Rattle.blocks.proofs.Runs.{firsts, aboves-none, counts_next, few-rows}
use Rattle.blocks.proofs.rows.check_rows.Goals as goal

pub loop-i-init : goal.loop-i-init
loop-i-init c = (search rules, sym (aboves-none _))

pub returns-in_err-list : goal.returns-in_err-list
returns-in_err-list c = search (rules, firsts)

pub count_row-counts-requires : goal.count_row-counts-requires
count_row-counts-requires c = few-rows c.args.block.now _ c.loop-i.i c.loop-i.invariant.1 (omega arith)

pub loop-i-preserved : goal.loop-i-preserved
loop-i-preserved c = (search (rules, firsts), counts_next _ _ _ _ _ c.count_row-counts.ensures c.loop-i.invariant.1 c.in_ok-list.ensures.list)

pub returns : goal.returns
returns c = search (rules, firsts)
