-- Parts of memory, what a write leaves, and texts at the front of a buffer. All are total: a part
-- ends where the memory ends, and a write is clipped to it.
--
-- The definitions are shut. At a written place or at a width such as 4096 an open `take` or
-- `replicate` computes step by step, and no law of the lemma files matches any more.
use Rattle.std.specs.Prelude.{◌≡◌, ℕ, ◌+◌, ◌-◌, ◌<◌, List, ◌++◌, length, take, drop, replicate, slice_index}

-- each number of the list is a byte
abbrev pub Bytes : List ℕ → Type 0
Bytes m = (i : ℕ) → slice_index m i < 256

-- the n bytes of m from `at` on, fewer where m ends before
unfoldable pub portion : List ℕ → ℕ → ℕ → List ℕ
portion m at n = take n (drop at m)

-- all of m but its first n bytes
unfoldable pub rest : List ℕ → ℕ → List ℕ
rest m n = drop n m

-- m with s over it from `at` on, as far as s fits
unfoldable pub written : List ℕ → ℕ → List ℕ → List ℕ
written m at s = take at m ++ (take (length m - at) s ++ drop (at + length s) m)

-- as much of a text as fits w bytes
unfoldable pub clip : ℕ → List ℕ → List ℕ
clip w t = take w t

-- a text at the front of w bytes, zeros behind
unfoldable pub padded : ℕ → List ℕ → List ℕ
padded w t = t ++ replicate (w - length t) 0

-- what a push of `more` behind the first n bytes of a buffer leaves, and the length r that it answers: the text so far is
-- the first r bytes, clipped to the buffer, and the bytes behind it are as they were
pub record Pushed (before : List ℕ) (n : ℕ) (more : List ℕ) (r : ℕ) (after : List ℕ) : Type 0 where
  pub len : r ≡ length (clip (length before) (take n before ++ more))
  pub text : take r after ≡ clip (length before) (take n before ++ more)
  pub behind : drop r after ≡ drop r before

-- what a whole text leaves in w bytes: clipped to them, zeros behind
pub record Placed (w : ℕ) (t : List ℕ) (r : ℕ) (after : List ℕ) : Type 0 where
  pub len : r ≡ length (clip w t)
  pub text : after ≡ padded w (clip w t)
