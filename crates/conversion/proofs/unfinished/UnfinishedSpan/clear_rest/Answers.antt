use Rattle.std.proofs.Common.{refl, ap, sym, ◌∙◌, List, map, take, subst}
use Rattle.conversion.specs.Pieces.{no_row, meta_pair}
use Rattle.conversion.specs.View.{span_of}
use Rattle.conversion.specs.declared.pieces.MetaRow.{MetaRow}
use Rattle.conversion.proofs.Held.{view_cleared, length_padded, meta_stays, same_padded}
use Rattle.conversion.proofs.DigestLemmas.{digested_stays}
use Rattle.conversion.specs.Digests.{Digested}
use Rattle.conversion.proofs.Endings.{zeroed_length, zeroed_front, zeroed_rest, padded_as}
use Rattle.conversion.proofs.unfinished.UnfinishedSpan.clear_rest.Goals as goal

pub returns-clause-made : goal.returns-clause-made
returns-clause-made c =
    let s = c.args.self.now in
    let b = s.block.now in
    let a = s.arena.now in
    let m = c.clear_behind.new.m in
    let e = c.clear_behind.ensures in
    let n = zeroed_front s.meta_len s.meta.now c.clear_rows.new.rows no_row c.clear_rows.ensures s.rows in
    record {
      kept = record { block = refl; room = length_padded b a m s.used e s.room; rows = zeroed_length s.meta_len s.meta.now _ no_row c.clear_rows.ensures s.rows; meta_name = refl; arena_name = refl };
      is = ap (λ (rows : List MetaRow). span_of b m s.used s.head rows (take s.metrics_len s.metrics)) n
          ∙ view_cleared b a m s.used e s.room s.head (take s.meta_len s.meta.now) (take s.metrics_len s.metrics) s.service_held s.name_held s.resource_held s.type_held s.meta_held s.metrics_held;
    }

pub returns-clause-tidy : goal.returns-clause-tidy
returns-clause-tidy c =
    let s = c.args.self.now in
    record {
      rows = zeroed_rest s.meta_len s.meta.now c.clear_rows.new.rows no_row c.clear_rows.ensures s.rows;
      bytes = zeroed_rest s.used s.arena.now c.clear_behind.new.m 0 (padded_as s.used s.arena.now _ s.room c.clear_behind.ensures) s.room;
    }

pub invariant_of-self-2-clause-meta_digests : goal.invariant_of-self-2-clause-meta_digests
invariant_of-self-2-clause-meta_digests c =
    let s = c.args.self.now in
    let b = s.block.now in
    let a = s.arena.now in
    let m = c.clear_behind.new.m in
    let n = zeroed_front s.meta_len s.meta.now c.clear_rows.new.rows no_row c.clear_rows.ensures s.rows in
    let stays = meta_stays b a m s.used (same_padded b a m s.used c.clear_behind.ensures s.room) (take s.meta_len s.meta.now) s.meta_held in
    subst (λ (rows : List MetaRow). Digested rows (map (meta_pair b m) rows)) (sym n) (digested_stays _ _ _ stays s.meta_digests)
