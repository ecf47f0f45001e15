use Rattle.std.proofs.Common.{rules}
use Rattle.conversion.proofs.Chains.{step_failed}
use Rattle.conversion.proofs.SingleLemmas.{singles, service_set, name_set, resource_set, type_set}
use Rattle.conversion.proofs.unfinished.UnfinishedSpan.set_single.Goals as goal

pub returns-in_err-piece : goal.returns-in_err-piece
returns-in_err-piece c = search (rules, step_failed, singles)

pub returns-in-Service : goal.returns-in-Service
returns-in-Service c =
    let k = c.in_ok-piece.ensures.step.kept in
    rw c.in-Service.is (record { kept = record { block = k.block; room = k.room; rows = k.rows; meta_name = k.meta_name; arena_name = k.arena_name }; is = service_set _ _ _ _ c.in_ok-piece.ensures.step.is c.in_ok-piece.ensures.text })

pub returns-in-Name : goal.returns-in-Name
returns-in-Name c =
    let k = c.in_ok-piece.ensures.step.kept in
    rw c.in-Name.is (record { kept = record { block = k.block; room = k.room; rows = k.rows; meta_name = k.meta_name; arena_name = k.arena_name }; is = name_set _ _ _ _ c.in_ok-piece.ensures.step.is c.in_ok-piece.ensures.text })

pub returns-in-Resource : goal.returns-in-Resource
returns-in-Resource c =
    let k = c.in_ok-piece.ensures.step.kept in
    rw c.in-Resource.is (record { kept = record { block = k.block; room = k.room; rows = k.rows; meta_name = k.meta_name; arena_name = k.arena_name }; is = resource_set _ _ _ _ c.in_ok-piece.ensures.step.is c.in_ok-piece.ensures.text })

pub returns-in-SpanType : goal.returns-in-SpanType
returns-in-SpanType c =
    let k = c.in_ok-piece.ensures.step.kept in
    rw c.in-SpanType.is (record { kept = record { block = k.block; room = k.room; rows = k.rows; meta_name = k.meta_name; arena_name = k.arena_name }; is = type_set _ _ _ _ c.in_ok-piece.ensures.step.is c.in_ok-piece.ensures.text })
