-- Memory that is cleared, and the answer of the whole.
use Rattle.std.proofs.Common.{◌≡◌, ℕ, ◌-◌, ◌<◌, ◌≤◌, List, ◌++◌, length, take, drop, replicate, Ok, Err, ap, sym, ◌∙◌, arith}
use Rattle.std.proofs.lemmas.List.{take_at, drop_at, length-append, length-take, length-take-le, length-replicate}
use Rattle.std.proofs.lemmas.Bool.{cond-true, cond-false, lt-ltb, le-ltb}
use Rattle.lent_bytes.specs.Memory.{padded}
use Rattle.conversion.specs.Spans.{Span}
use Rattle.conversion.specs.View.{view}
use Rattle.conversion.specs.Answers.{answer}
use Rattle.conversion.specs.declared.unfinished.UnfinishedSpan.{UnfinishedSpan}

-- all of a list behind its first n is d
module _ {X : Type 0} (n : ℕ) (before after : List X) (d : X) (e : after ≡ take n before ++ replicate (length before - n) d) (h : n ≤ length before) where
  front : length (take n before) ≡ n
  front = length-take-le n before h

  pub zeroed_length : length after ≡ length before
  zeroed_length = ap length e ∙ length-append (take n before) (replicate (length before - n) d) ∙ (let r = length-replicate (length before - n) d in let f = front in omega arith)

  pub zeroed_front : take n after ≡ take n before
  zeroed_front = ap (take n) e ∙ take_at (take n before) (replicate (length before - n) d) n front

  pub zeroed_rest : drop n after ≡ replicate (length after - n) d
  zeroed_rest = ap (drop n) e ∙ drop_at (take n before) (replicate (length before - n) d) n front ∙ ap (λ (l : ℕ). replicate (l - n) d) (sym zeroed_length)

pub zeroed_whole : {X : Type 0} (before after : List X) (d : X) → after ≡ take 0 before ++ replicate (length before - 0) d → after ≡ replicate (length before) d
zeroed_whole before after d e = let z : length before - 0 ≡ length before = omega arith in e ∙ ap (λ (l : ℕ). replicate l d) z

-- zeros
pub padded_as : (n : ℕ) (before after : List ℕ) → n ≤ length before → after ≡ padded (length before) (take n before) → after ≡ take n before ++ replicate (length before - n) 0
unfolding padded
padded_as n before after h e = e ∙ ap (λ l. take n before ++ replicate (length before - l) 0) (length-take-le n before h)

-- what is answered
pub answer-rows : (n w : ℕ) (s : Span) → n < 398 → Err 30 ≡ answer n w s
answer-rows n w s h = sym (cond-true _ _ _ (lt-ltb n 398 h))

pub answer-large : (n w : ℕ) (s : Span) → 398 ≤ n → 65536 < w → Err 31 ≡ answer n w s
answer-large n w s h g = sym (cond-false _ _ _ (le-ltb n 398 h) ∙ cond-true _ _ _ (lt-ltb 65536 w g))

pub answer-full : (n w : ℕ) (s : Span) → 398 ≤ n → w ≤ 65536 → w < length s.arena → Err 32 ≡ answer n w s
answer-full n w s h g f = sym (cond-false _ _ _ (le-ltb n 398 h) ∙ cond-false _ _ _ (le-ltb 65536 w g) ∙ cond-true _ _ _ (lt-ltb w (length s.arena) f))

pub answer-made : (n w : ℕ) (s t : Span) → 398 ≤ n → w ≤ 65536 → t ≡ s → length t.arena ≤ w → Ok t ≡ answer n w s
answer-made n w s t h g e f =
    let l : length s.arena ≤ w = let p : length t.arena ≡ length s.arena = ap (λ (x : Span). length x.arena) e in omega arith in
    ap Ok e ∙ sym (cond-false _ _ _ (le-ltb n 398 h) ∙ cond-false _ _ _ (le-ltb 65536 w g) ∙ cond-false _ _ _ (le-ltb w (length s.arena) l))

-- what a span has placed fits its arena
pub view_fits : (d : UnfinishedSpan) → length (view d).arena ≤ length d.arena.now
view_fits d = let r = d.room in let l = length-take d.used d.arena.now in omega arith
