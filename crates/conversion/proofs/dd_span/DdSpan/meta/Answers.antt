use Rattle.std.proofs.Common.{take}
use Rattle.conversion.proofs.TableLemmas.{meta_there, meta_missing}
use Rattle.conversion.proofs.dd_span.DdSpan.meta.Goals as goal

pub returns-in-Some : goal.returns-in-Some
returns-in-Some c = let s = c.args.self.now.made in meta_there s.block.now s.arena.now c.args.i (take s.meta_len s.meta.now) _ _ _ _ c.row_at.ensures c.in-Some.is c.piece_bytes.ensures c.piece_bytes-in-Some.ensures

pub returns-in-None : goal.returns-in-None
returns-in-None c = let s = c.args.self.now.made in meta_missing s.block.now s.arena.now c.args.i (take s.meta_len s.meta.now) _ c.row_at.ensures c.in-None.is
