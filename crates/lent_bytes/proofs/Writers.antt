-- Pushes through a writer.
use Rattle.std.proofs.Common.{◌≡◌, ℕ, List, [], ◌++◌, min, length, take, sym, refl, ap, ◌∙◌}
use Rattle.lent_bytes.specs.declared.texts.TextWriter.{TextWriter}
use Rattle.lent_bytes.specs.Memory.{clip, padded, Placed}
use Rattle.lent_bytes.specs.Writing.{Wrote}
use Rattle.lent_bytes.proofs.Clips.{length-clip, pushed-length, pushed_more, pushed_none}

-- a push behind a push is one push
pub wrote_more : (a b c : TextWriter) (s t : List ℕ) → Wrote a b s → Wrote b c t → Wrote a c (s ++ t)
wrote_more a b c s t x y =
    record { pushed = pushed_more _ _ _ _ _ _ _ _ x.pushed y.pushed; named = y.named ∙ x.named }

-- and a push of nothing leaves the writer as it was
pub wrote_none : (a : TextWriter) → Wrote a a []
wrote_none a = record { pushed = pushed_none a.memory.now a.len a.inside; named = refl }

module _ (a b : TextWriter) (t : List ℕ) (e : a.len ≡ 0) (h : Wrote a b t) where
  -- from the front on, as much of a text as fits
  written_clip : take b.len b.memory.now ≡ clip (length a.memory.now) t
  written_clip = h.pushed.text ∙ ap (λ n. clip (length a.memory.now) (take n a.memory.now ++ t)) e

  pub written_len : b.len ≡ min (length a.memory.now) (length t)
  written_len =
      h.pushed.len ∙ ap (λ n. length (clip (length a.memory.now) (take n a.memory.now ++ t))) e ∙ length-clip (length a.memory.now) t

  -- a whole text, with zeros behind
  pub placed_whole : (m : List ℕ) (w r : ℕ) (after : List ℕ) → length m ≡ w → a.memory.now ≡ m → r ≡ b.len → after ≡ padded (length b.memory.now) (take b.len b.memory.now) → Placed w t r after
  placed_whole m w r after o k l z =
      let size : length b.memory.now ≡ w = pushed-length _ _ _ _ _ h.pushed ∙ (ap length k ∙ o) in
      let text : take b.len b.memory.now ≡ clip w t = written_clip ∙ ap (λ n. clip n t) (ap length k ∙ o) in
      record {
        len = l ∙ (h.pushed.len ∙ ap length (sym h.pushed.text ∙ text));
        text = z ∙ (ap (λ n. padded n (take b.len b.memory.now)) size ∙ ap (padded w) text);
      }
