use Rattle.std.proofs.Common.{◌+◌, ◌≤◌, length, refl, arith}
use Rattle.conversion.specs.Spans.{bytes_of}
use Rattle.conversion.specs.Pieces.{piece_text}
use Rattle.conversion.proofs.Held.{piece_stays, same_before, room_stays, view_placed, placed_over}
use Rattle.conversion.proofs.DigestLemmas.{digested_stays}
use Rattle.conversion.proofs.Held.{meta_stays}
use Rattle.conversion.proofs.unfinished.UnfinishedSpan.place_again.Goals as goal

pub returns-then-len-self-clause-step : goal.returns-then-len-self-clause-step
returns-then-len-self-clause-step c =
    let s = c.args.self.now in
    record { kept = record { block = refl; room = refl; rows = refl; meta_name = refl; arena_name = refl }; over = placed_over s.arena.now s.used (bytes_of (piece_text s.block.now s.arena.now c.args.piece)) _ refl s.room (omega (arith, c.piece_len-len.ensures)) }

pub returns-clause-step : goal.returns-clause-step
returns-clause-step c =
    let s = c.args.self.now in
    let x = bytes_of (piece_text s.block.now s.arena.now c.args.piece) in
    let l = c.piece_len-len.ensures in
    let fits : s.used + length x ≤ length s.arena.now = let r = s.room in omega arith in
    record {
      kept = record { block = refl; room = room_stays s.block.now s.arena.now x _ s.used c.write_again.ensures; rows = refl; meta_name = refl; arena_name = refl };
      is = rw l (view_placed s.block.now s.arena.now x _ s.used c.write_again.ensures s.head _ _ fits s.service_held s.name_held s.resource_held s.type_held s.meta_held s.metrics_held);
    }

pub returns-clause-texts : goal.returns-clause-texts
returns-clause-texts c p h = let s = c.args.self.now in piece_stays s.block.now s.arena.now _ s.used (same_before s.block.now s.arena.now (bytes_of (piece_text s.block.now s.arena.now c.args.piece)) _ s.used c.write_again.ensures) p h

pub invariant_of-self-clause-meta_digests : goal.invariant_of-self-clause-meta_digests
invariant_of-self-clause-meta_digests c =
    let s = c.args.self.now in
    digested_stays _ _ _ (meta_stays s.block.now s.arena.now _ s.used (same_before s.block.now s.arena.now (bytes_of (piece_text s.block.now s.arena.now c.args.piece)) _ s.used c.write_again.ensures) _ s.meta_held) s.meta_digests
