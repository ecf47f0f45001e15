-- What stays of memory over writes, as ranges, and what is read from them.
use Rattle.std.proofs.Common.{◌≡◌, ℕ, ◌+◌, ◌-◌, ◌≤◌, List, [], ◌++◌, length, get_or, drop, sym, refl, ap, ◌∙◌, arith}
use Rattle.std.proofs.lemmas.List.{get_or-take, get_or-drop, take_at, drop_at, take_all}
use Rattle.lent_bytes.specs.Memory.{portion, written}
use Rattle.lent_bytes.specs.Fields.{le2, le4, int8, be8, u16_in, u32_in, i64_in, id_in}
use Rattle.lent_bytes.proofs.Frames.{portion_before, portion-after, portion-within}

-- m' has the bytes of m from lo up to hi
abbrev pub Kept : List ℕ → List ℕ → ℕ → ℕ → Type 0
Kept m m' lo hi = (a n : ℕ) → lo ≤ a → a + n ≤ hi → portion m' a n ≡ portion m a n

-- a write behind the range, before it, and one after another
pub behind : (m : List ℕ) (at : ℕ) (s : List ℕ) (lo hi : ℕ) → hi ≤ at → Kept m (written m at s) lo hi
behind m at s lo hi h a n g e = portion_before m at s a n (omega arith)

pub ahead : (m : List ℕ) (at : ℕ) (s : List ℕ) (lo hi : ℕ) → at + length s ≤ lo → Kept m (written m at s) lo hi
ahead m at s lo hi h a n g e = portion-after m at s a n (omega arith)

pub then : (m m' m'' : List ℕ) (lo hi : ℕ) → Kept m m' lo hi → Kept m' m'' lo hi → Kept m m'' lo hi
then m m' m'' lo hi f g a n l h = g a n l h ∙ f a n l h

pub narrow : (m m' : List ℕ) (lo hi lo' hi' : ℕ) → Kept m m' lo hi → lo ≤ lo' → hi' ≤ hi → Kept m m' lo' hi'
narrow m m' lo hi lo' hi' k f g a n h e = k a n (omega arith) (omega arith)

pub same : (m : List ℕ) (lo hi : ℕ) → Kept m m lo hi
same m lo hi a n h g = refl

-- a byte is the first of its part
pub byte_portion : (m : List ℕ) (a : ℕ) → get_or m a 0 ≡ get_or (portion m a 1) 0 0
unfolding portion
byte_portion m a = let e : a + 0 ≡ a = omega arith in sym (get_or-take 1 (drop a m) 0 0 (omega arith) ∙ get_or-drop a m 0 0 ∙ ap (λ i. get_or m i 0) e)

-- numbers in a range that stays
module _ (m m' : List ℕ) (lo hi : ℕ) (k : Kept m m' lo hi) (a : ℕ) (h : lo ≤ a) where
  pub byte_kept : a + 1 ≤ hi → get_or m' a 0 ≡ get_or m a 0
  byte_kept g = byte_portion m' a ∙ ap (λ b. get_or b 0 0) (k a 1 h g) ∙ sym (byte_portion m a)

  pub u16_kept : a + 2 ≤ hi → u16_in m' a ≡ u16_in m a
  u16_kept g = ap le2 (k a 2 h g)

  pub u32_kept : a + 4 ≤ hi → u32_in m' a ≡ u32_in m a
  u32_kept g = ap le4 (k a 4 h g)

  pub i64_kept : a + 8 ≤ hi → i64_in m' a ≡ i64_in m a
  i64_kept g = ap int8 (k a 8 h g)

  pub id_kept : a + 8 ≤ hi → id_in m' a ≡ id_in m a
  id_kept g = ap be8 (k a 8 h g)

-- what was written, read back from its place o
module _ (m : List ℕ) (at : ℕ) (s : List ℕ) (a o : ℕ) (g : a ≡ at + o) (f : at + length s ≤ length m) where
  pub portion-place : (n : ℕ) → o + n ≤ length s → portion (written m at s) a n ≡ portion s o n
  portion-place n h = let d : a - at ≡ o = omega arith in portion-within m at s a n (omega arith) (omega arith) f ∙ ap (λ x. portion s x n) d

  pub byte_place : o + 1 ≤ length s → get_or (written m at s) a 0 ≡ get_or s o 0
  byte_place h = byte_portion (written m at s) a ∙ ap (λ b. get_or b 0 0) (portion-place 1 h) ∙ sym (byte_portion s o)

  pub u16_place : o + 2 ≤ length s → u16_in (written m at s) a ≡ u16_in s o
  u16_place h = ap le2 (portion-place 2 h)

  pub u32_place : o + 4 ≤ length s → u32_in (written m at s) a ≡ u32_in s o
  u32_place h = ap le4 (portion-place 4 h)

  pub i64_place : o + 8 ≤ length s → i64_in (written m at s) a ≡ i64_in s o
  i64_place h = ap int8 (portion-place 8 h)

  pub id_place : o + 8 ≤ length s → id_in (written m at s) a ≡ id_in s o
  id_place h = ap be8 (portion-place 8 h)

-- two texts, one behind the other
pub portion_first : (k v : List ℕ) → portion (k ++ v) 0 (length k) ≡ k
unfolding portion
portion_first k v = take_at k v (length k) refl

pub portion_second : (k v : List ℕ) → portion (k ++ v) (length k) (length v) ≡ v
unfolding portion
portion_second k v = rw (drop_at k v (length k) refl) (take_all (length v) v (omega arith))

pub portion-whole : (v : List ℕ) → portion v 0 (length v) ≡ v
unfolding portion
portion-whole v = take_all (length v) v (omega arith)

pub portion-none : (m : List ℕ) (a : ℕ) → portion m a 0 ≡ []
unfolding portion
portion-none m a = refl
