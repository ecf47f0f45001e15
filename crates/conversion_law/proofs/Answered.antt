-- An accepted span is what the steps make, of what a draft holds as of its block; and readings that say the same.
use Rattle.std.proofs.Common.{◌≡◌, ℕ, ◌≤◌, Bool, true, false, cond, List, [], length, nat_lt, Result, Ok, Err, IfOk, is_ok, sym, refl, ap, ◌∙◌, subst}
use Rattle.std.proofs.lemmas.Bool.{both_ways, ltb-false}
use Rattle.blocks.specs.Facts.{facts}
use Rattle.readers.specs.Reading.{Reading}
use Rattle.layer.specs.Layers.{Layer}
use Rattle.conversion.specs.declared.dd_span.DdSpan.{DdSpan}
use Rattle.conversion.specs.declared.convert.ConvertRefused.{ConvertRefused}
use Rattle.conversion.specs.Spans.{Span}
use Rattle.conversion.specs.Steps.{steps}
use Rattle.conversion.specs.View.{shown}
use Rattle.conversion.specs.Answers.{answer}
use Rattle.conversion_law.specs.Agreement.{AgreeClosely, AgreeWholly}
use Rattle.conversion_law.specs.Told.{Told, block_of, held_by, read, BlocksHold}
use Rattle.conversion_law.specs.StepsAgree.{AnyOrder, ConvertsAlike}
use Rattle.conversion_law.specs.LaterDiffers.{SameButThree, PilesDiffer}
use Rattle.conversion_law.specs.NeverFull.{NeverFull}
use Rattle.conversion_law.specs.Law.{Answers, ConvertsWhatIsHeld, ConvertsTheSameAlike, ConvertsInAnyOrder, LaterEditionDiffers, ReadsAlike}
use Rattle.conversion_law.proofs.Piles.{derived-same}
use Rattle.conversion_law.proofs.Texts.{texts-by_reading}

abbrev span_in : Span → Result Span ℕ → Span
span_in d (Ok s) = s
span_in d (Err e) = d

pub record Accepted (n : ℕ) (s d : Span) : Type 0 where
  pub is : d ≡ s
  pub room : 398 ≤ n

pub accepted : (n w : ℕ) (s d : Span) → Ok d ≡ answer n w s → Accepted n s d
accepted n w s d = by (nat_lt n 398) (nat_lt 65536 w) (nat_lt w (length s.arena)) refl
  where
    by : (a b c : Bool) → nat_lt n 398 ≡ a → ◌≡◌ {A = Result Span ℕ} (Ok d) (cond a (Err 30) (cond b (Err 31) (cond c (Err 32) (Ok s)))) → Accepted n s d
    by true b c h e = absurd (both_ways true (ap is_ok e) refl)
    by false true c h e = absurd (both_ways true (ap is_ok e) refl)
    by false false true h e = absurd (both_ways true (ap is_ok e) refl)
    by false false false h e = record { is = ap (span_in d) e; room = ltb-false n 398 h }

pub held_lem : BlocksHold → ConvertsWhatIsHeld
held_lem law t ls n w (Err e) a = tt
held_lem law t ls n w (Ok d) a =
    let h = law t in
    let r = read ls (facts (block_of t)) in
    (accepted n w (steps n (facts (block_of t)) r) (shown d) a.answered).is ∙ h.same_steps n r ∙ ap (steps n (held_by t)) (h.same_reading ls)

-- what holds of the spans that the steps make in one table with room holds of accepted spans, whatever table each was lent
both_accepted :
    BlocksHold → NeverFull → (P : Span → Span → Type 0) (s t : Told) (js ls : List Layer)
    → ((n : ℕ) → 398 ≤ n → P (steps n (held_by s) (read js (held_by s))) (steps n (held_by t) (read ls (held_by t))))
    → (n k w v : ℕ) (p q : Result DdSpan ConvertRefused) → Answers s js n w p → Answers t ls k v q
    → IfOk p (λ d. IfOk q (λ e. P (shown d) (shown e)))
both_accepted law full P s t js ls h n k w v (Err c) q a b = tt
both_accepted law full P s t js ls h n k w v (Ok d) (Err c) a b = tt
both_accepted law full P s t js ls h n k w v (Ok d) (Ok e) a b =
    let g = law t in
    let r = read ls (held_by t) in
    let i = (accepted n w (steps n (facts (block_of s)) (read js (facts (block_of s)))) (shown d) a.answered).room in
    let j = (accepted k v (steps k (facts (block_of t)) (read ls (facts (block_of t)))) (shown e) b.answered).room in
    let x = held_lem law s js n w (Ok d) a in
    let y = held_lem law t ls k v (Ok e) b in
    let z : steps k (held_by t) r ≡ steps n (held_by t) r = sym (g.same_steps k r) ∙ (full (block_of t) g.lawful k n j i r).same ∙ g.same_steps n r in
    subst (λ o. P o (shown e)) (sym x) (subst (P (steps n (held_by s) (read js (held_by s)))) (sym (y ∙ z)) (h n i))

pub alike_lem : BlocksHold → ConvertsAlike → NeverFull → ConvertsTheSameAlike
alike_lem law agree full s t said ls = both_accepted law full AgreeClosely s t ls ls (λ n room. agree n room s t said ls)

pub ordered_lem : BlocksHold → AnyOrder → NeverFull → ConvertsInAnyOrder
ordered_lem law agree full s t same left right ls = both_accepted law full AgreeWholly s t ls ls (λ n room. agree n room s t same left right ls)

pub edition_lem : BlocksHold → PilesDiffer → NeverFull → LaterEditionDiffers
edition_lem law differ full t ls = both_accepted law full SameButThree t t ls [] (λ n room. differ ls n (held_by t) (read [] (held_by t)))

pub readers_lem : (a b : Reading) → ReadsAlike a b
readers_lem a b h p q = let d = derived-same a b h p q in record { derived = d; texts = texts-by_reading a b d }
