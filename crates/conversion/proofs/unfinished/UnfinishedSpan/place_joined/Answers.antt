use Rattle.std.proofs.Common.{◌≤◌, codes, ap, ◌∙◌, arith}
use Rattle.conversion.specs.Spans.{placed, bytes_of}
use Rattle.conversion.specs.Pieces.{piece_text}
use Rattle.conversion.specs.View.{view, placing, joined}
use Rattle.conversion.proofs.Chains.{step_failed, made_then, fail_then}
use Rattle.conversion.proofs.MessageLemmas.{stopped_first, stopped_second, stopped_third, made_third, reads_placed}
use Rattle.conversion.proofs.unfinished.UnfinishedSpan.place_joined.Goals as goal

pub returns-in_err-place_again-clause-step : goal.returns-in_err-place_again-clause-step
returns-in_err-place_again-clause-step c =
    let s = c.args.self.now in
    let a = piece_text s.block.now s.arena.now c.args.a in
    let b = piece_text s.block.now s.arena.now c.args.b in
    let e = c.place_again.new.self in
    step_failed _ s e (placing (joined a b) (view s)) c.from_residual.ensures.0 (stopped_first s e (bytes_of a) (codes " ") (bytes_of b) c.in_err-place_again.ensures.step)

pub returns-in_err-place-clause-step : goal.returns-in_err-place-clause-step
returns-in_err-place-clause-step c =
    let s = c.args.self.now in
    let a = piece_text s.block.now s.arena.now c.args.a in
    let b = piece_text s.block.now s.arena.now c.args.b in
    let m = c.place_again.new.self in
    let e = c.place.new.self in
    let f = fail_then (λ n m s. placing (codes " ") s) s m e _ c.in_ok-place_again.ensures.step c.in_err-place.ensures.step in
    step_failed _ s e (placing (joined a b) (view s)) c.from_residual-in_err-place.ensures.0 (stopped_second s e (bytes_of a) (codes " ") (bytes_of b) f)

pub returns-in_err-place_again-2-clause-step : goal.returns-in_err-place_again-2-clause-step
returns-in_err-place_again-2-clause-step c =
    let s = c.args.self.now in
    let a = piece_text s.block.now s.arena.now c.args.a in
    let b = piece_text s.block.now s.arena.now c.args.b in
    let m = c.place_again.new.self in
    let d = c.place.new.self in
    let e = c.place_again-2.new.self in
    let p = made_then (λ n m s. placing (codes " ") s) s m d _ c.in_ok-place_again.ensures.step c.in_ok-place.ensures.step in
    let h : _ ≤ m.used = let g = c.in_ok-place_again.ensures.grown in let l = c.requires.b in omega arith in
    let q = ap bytes_of (c.in_ok-place.ensures.texts c.args.b h ∙ c.in_ok-place_again.ensures.texts c.args.b c.requires.b) in
    step_failed _ s e (placing (joined a b) (view s)) c.from_residual-in_err-place_again-2.ensures.0 (stopped_third s e (bytes_of a) (codes " ") (bytes_of b) d _ q p c.in_err-place_again-2.ensures.step)

pub returns-clause-step : goal.returns-clause-step
returns-clause-step c =
    let s = c.args.self.now in
    let a = piece_text s.block.now s.arena.now c.args.a in
    let b = piece_text s.block.now s.arena.now c.args.b in
    let m = c.place_again.new.self in
    let d = c.place.new.self in
    let e = c.place_again-2.new.self in
    let p = made_then (λ n m s. placing (codes " ") s) s m d _ c.in_ok-place_again.ensures.step c.in_ok-place.ensures.step in
    let h : _ ≤ m.used = let g = c.in_ok-place_again.ensures.grown in let l = c.requires.b in omega arith in
    let q = ap bytes_of (c.in_ok-place.ensures.texts c.args.b h ∙ c.in_ok-place_again.ensures.texts c.args.b c.requires.b) in
    made_third s e (bytes_of a) (codes " ") (bytes_of b) d _ q p c.in_ok-place_again-2.ensures.step

pub returns-clause-text : goal.returns-clause-text
returns-clause-text c =
    let s = c.args.self.now in
    let a = piece_text s.block.now s.arena.now c.args.a in
    let b = piece_text s.block.now s.arena.now c.args.b in
    let m = c.place_again.new.self in
    let d = c.place.new.self in
    let e = c.place_again-2.new.self in
    let p = made_then (λ n m s. placing (codes " ") s) s m d _ c.in_ok-place_again.ensures.step c.in_ok-place.ensures.step in
    let h : _ ≤ m.used = let g = c.in_ok-place_again.ensures.grown in let l = c.requires.b in omega arith in
    let q = ap bytes_of (c.in_ok-place.ensures.texts c.args.b h ∙ c.in_ok-place_again.ensures.texts c.args.b c.requires.b) in
    ap placed (reads_placed s e (joined a b) (made_third s e (bytes_of a) (codes " ") (bytes_of b) d _ q p c.in_ok-place_again-2.ensures.step))
