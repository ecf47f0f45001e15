use Rattle.std.proofs.Common.{codes}
use Rattle.conversion.specs.Pieces.{piece_text}
use Rattle.conversion.specs.View.{joined}
use Rattle.conversion.proofs.Chains.{step_failed}
use Rattle.conversion.proofs.MessageLemmas.{put_placed, put_full}
use Rattle.conversion.proofs.unfinished.UnfinishedSpan.put_joined.Goals as goal

pub returns-in_err-both : goal.returns-in_err-both
returns-in_err-both c =
    let s = c.args.self.now in
    let x = joined (piece_text s.block.now s.arena.now c.args.code) (piece_text s.block.now s.arena.now c.args.text) in
    step_failed _ _ _ _ c.from_residual.ensures.0 (put_full (codes "error.message") x s _ c.in_err-both.ensures.step)

pub returns : goal.returns
returns c =
    let s = c.args.self.now in
    let x = joined (piece_text s.block.now s.arena.now c.args.code) (piece_text s.block.now s.arena.now c.args.text) in
    put_placed (codes "error.message") x s _ _ _ c.in_ok-both.ensures.text c.in_ok-both.ensures.step c.put_again.ensures
