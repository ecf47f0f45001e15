-- Texts that lie in memory, and those of the links.
use Rattle.std.proofs.Common.{◌≡◌, ℕ, ◌+◌, false, List, ◌++◌, length, take, ap, ◌∙◌, arith, rules}
use Rattle.std.proofs.lemmas.List.{places, same_lists, length-append, length-take, length-take-le}
use Rattle.lent_bytes.specs.Memory.{portion}
use Rattle.blocks.specs.Facts.{facts, row_facts}
use Rattle.conversion.specs.Spans.{Span}
use Rattle.conversion.specs.LinkTexts.{Lies, link_texts}
use Rattle.conversion.specs.Steps.{links, at_the_end}
use Rattle.conversion.specs.View.{view, Made, placing}
use Rattle.conversion.specs.declared.unfinished.UnfinishedSpan.{UnfinishedSpan}
use Rattle.conversion.proofs.Extends.{under_at_the_end}
use Rattle.conversion.proofs.LinkLemmas.{links-placed}

pub lies_behind : (a t : List ℕ) (at : ℕ) → length a ≡ at → Lies (a ++ t) at t
unfolding portion
lies_behind a t at e = let l = length-append a t in record { within = omega arith; text = same_lists _ _ (search (rules, places)) (λ k d l. grind (arith, places)) }

pub lies_ahead : (a b t : List ℕ) (at : ℕ) → Lies a at t → Lies (a ++ b) at t
unfolding portion
lies_ahead a b t at h =
    let l = length-append a b in
    let w = h.within in
    let same : portion (a ++ b) at (length t) ≡ portion a at (length t) = same_lists _ _ (search (rules, places)) (λ k d l. grind (arith, places)) in
    record { within = omega arith; text = same ∙ h.text }

-- what lies in the front of some memory
pub lies_front : (a t : List ℕ) (u at : ℕ) → Lies (take u a) at t → Lies a at t
unfolding portion
lies_front a t u at h =
    let l = length-take u a in
    let w = h.within in
    let same : portion a at (length t) ≡ portion (take u a) at (length t) = same_lists _ _ (search (rules, places)) (λ k d l. grind (arith, places)) in
    record { within = omega arith; text = same ∙ h.text }

-- a part of what lies there
pub lies_part : (a x y z : List ℕ) (at : ℕ) → Lies a at (x ++ (y ++ z)) → Lies a (at + length x) y
unfolding portion
lies_part a x y z at h =
    let l = length-append x (y ++ z) in
    let m = length-append y z in
    let w = h.within in
    let of : portion a (at + length x) (length y) ≡ portion (portion a at (length (x ++ (y ++ z)))) (length x) (length y) = same_lists _ _ (search (rules, places)) (λ k d l. grind (arith, places)) in
    let part : portion (x ++ (y ++ z)) (length x) (length y) ≡ y = same_lists _ _ (search (rules, places)) (λ k d l. grind (arith, places)) in
    record { within = omega arith; text = of ∙ ap (λ t. portion t (length x) (length y)) h.text ∙ part }

-- where the texts of the links begin, from the step that places them to the end
module _ (m e : UnfinishedSpan) where
  pub at_links : (at : ℕ) → m.used ≡ at → Made m e (links (facts m.block.now) (view m)) → Lies (view e).arena at (link_texts false (row_facts e.block.now))
  unfolding placing
  at_links at h q =
      let t = link_texts false (row_facts m.block.now) in
      let a : List ℕ = take m.used m.arena.now in
      let s : (view e).arena ≡ a ++ t = ap (λ (x : Span). x.arena) (q.is ∙ links-placed (facts m.block.now) (view m)) in
      rw (s, q.kept.block) (lies_behind a t at (length-take-le m.used m.arena.now m.room ∙ h))

  pub at_end : (n at : ℕ) → Made m e (at_the_end n (facts m.block.now) (view m)) → Lies (view m).arena at (link_texts false (row_facts m.block.now)) → Lies (view e).arena at (link_texts false (row_facts e.block.now))
  at_end n at q h =
      let x = under_at_the_end n (facts m.block.now) (view m) in
      let s : (view e).arena ≡ (view m).arena ++ x.more = ap (λ (x : Span). x.arena) q.is ∙ x.is in
      rw (s, q.kept.block) (lies_ahead (view m).arena x.more _ at h)

  pub at_cleared : (at : ℕ) → Made m e (view m) → Lies (view m).arena at (link_texts false (row_facts m.block.now)) → Lies e.arena.now at (link_texts false (row_facts e.block.now))
  at_cleared at q h =
      let s : take e.used e.arena.now ≡ take m.used m.arena.now = ap (λ (x : Span). x.arena) q.is in
      let t = link_texts false (row_facts m.block.now) in
      let front : Lies (take e.used e.arena.now) at t = rw s h in
      rw q.kept.block (lies_front e.arena.now t e.used at front)
