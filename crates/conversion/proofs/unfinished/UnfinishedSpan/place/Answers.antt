use Rattle.std.proofs.Common.{◌+◌, ◌≤◌, length, refl, ap, arith}
use Rattle.conversion.specs.Spans.{placed}
use Rattle.conversion.proofs.Held.{piece_stays, same_before, room_stays, reads_back, view_placed, placed_over}
use Rattle.conversion.proofs.DigestLemmas.{digested_stays}
use Rattle.conversion.proofs.Held.{meta_stays}
use Rattle.conversion.proofs.unfinished.UnfinishedSpan.place.Goals as goal

pub returns-then-len-self-clause-step : goal.returns-then-len-self-clause-step
returns-then-len-self-clause-step c =
    let s = c.args.self.now in
    record { kept = record { block = refl; room = refl; rows = refl; meta_name = refl; arena_name = refl }; over = placed_over s.arena.now s.used c.args.text.now _ refl s.room (omega arith) }

pub returns-clause-step : goal.returns-clause-step
returns-clause-step c =
    let s = c.args.self.now in
    let x = c.args.text.now in
    let fits : s.used + length x ≤ length s.arena.now = let r = s.room in omega arith in
    record {
      kept = record { block = refl; room = room_stays s.block.now s.arena.now x _ s.used c.write.ensures; rows = refl; meta_name = refl; arena_name = refl };
      is = view_placed s.block.now s.arena.now x _ s.used c.write.ensures s.head _ _ fits s.service_held s.name_held s.resource_held s.type_held s.meta_held s.metrics_held;
    }

pub returns-clause-text : goal.returns-clause-text
returns-clause-text c =
    let s = c.args.self.now in
    let r = s.room in
    ap placed (reads_back s.block.now s.arena.now c.args.text.now _ s.used c.write.ensures (omega arith))

pub returns-clause-texts : goal.returns-clause-texts
returns-clause-texts c p h = let s = c.args.self.now in piece_stays s.block.now s.arena.now _ s.used (same_before s.block.now s.arena.now c.args.text.now _ s.used c.write.ensures) p h

pub invariant_of-self-clause-meta_digests : goal.invariant_of-self-clause-meta_digests
invariant_of-self-clause-meta_digests c =
    let s = c.args.self.now in
    digested_stays _ _ _ (meta_stays s.block.now s.arena.now _ s.used (same_before s.block.now s.arena.now c.args.text.now _ s.used c.write.ensures) _ s.meta_held) s.meta_digests
