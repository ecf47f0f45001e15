-- Memory with a text at its front.
use Rattle.std.proofs.Common.{◌≡◌, ℕ, ◌≤◌, min, List, ◌++◌, length, take, sym, ap, ◌∙◌, arith}
use Rattle.lent_bytes.specs.declared.texts.TextWriter.{TextWriter}
use Rattle.lent_bytes.specs.Memory.{portion, padded, clip, Placed}
use Rattle.lent_bytes.specs.Writing.{Wrote}
use Rattle.lent_bytes.proofs.Clips.{clip-all, front}
use Rattle.readers.specs.Texts.{Filled}

-- a text that fits is placed whole
pub whole : (v w : ℕ) (t : List ℕ) (r : ℕ) (after : List ℕ) → v ≡ w → length t ≤ w → Placed v t r after → Filled w t r after
whole v w t r after e f p =
    let c : clip v t ≡ t = clip-all v t (omega arith) in
    record { len = p.len ∙ ap length c; text = p.text ∙ (ap (padded v) c ∙ ap (λ n. padded n t) e) }

-- the same with nothing cleared behind
pub pushed_front : (a b : TextWriter) (t m : List ℕ) (w r : ℕ) → a.len ≡ 0 → Wrote a b t → length m ≡ w → length t ≤ w → a.memory.now ≡ m → r ≡ b.len → portion b.memory.now 0 r ≡ t
unfolding portion
pushed_front a b t m w r e h o f k l =
    ap (λ n. take n b.memory.now) l
    ∙ h.pushed.text
    ∙ ap (λ n. clip (length a.memory.now) (take n a.memory.now ++ t)) e
    ∙ clip-all (length a.memory.now) t (omega (arith, ap length k))

-- zeros behind the first bytes
pub cleared : (b : TextWriter) (m : List ℕ) (w n r : ℕ) (after : List ℕ) → length m ≡ w → b.len ≡ min n (length m) → b.memory.now ≡ m → r ≡ b.len → after ≡ padded (length b.memory.now) (take b.len b.memory.now) → Filled w (portion m 0 n) r after
unfolding portion
cleared b m w n r after o e k l z =
    let f = front w n b.len m o (e ∙ ap (min n) o) in
    record {
      len = l ∙ (sym f.1 ∙ ap length (sym f.0));
      text = z ∙ (ap (λ x. padded (length x) (take b.len x)) k ∙ (ap (λ v. padded v (take b.len m)) o ∙ ap (padded w) (sym f.0)));
    }
