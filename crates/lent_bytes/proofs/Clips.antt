-- Laws of a clipped text.
use Rattle.std.proofs.Common.{◌≡◌, ℕ, zero, suc, ◌+◌, ◌-◌, ◌≤◌, min, List, [], ◌∷◌, ◌++◌, length, take, drop, replicate, sym, refl, ap, ◌∙◌, ⊎_elim, append_assoc, arith, length-append, length-drop, take-append-drop, length-take, take_all, drop-drop, rules}
use lib.Seq.{take-append-add, take-length, take-append_seam}
use borrow.Rule.Slice.PartMut.{put_mid}
use Rattle.std.proofs.lemmas.Bool.{cases_lt}
use Rattle.std.proofs.lemmas.List.{append-nil, drop_all, places, same_lists}
use Rattle.lent_bytes.specs.Memory.{padded, clip, written, Pushed}

-- what was clipped may be clipped later
pub clip-more : (w : ℕ) (a b : List ℕ) → clip w (clip w a ++ b) ≡ clip w (a ++ b)
unfolding clip
clip-more zero a b = refl
clip-more (suc w) [] b = refl
clip-more (suc w) (x ∷ a) b = ap (λ (l : List ℕ). x ∷ l) (clip-more w a b)

pub length-clip : (w : ℕ) (t : List ℕ) → length (clip w t) ≡ min w (length t)
unfolding clip
length-clip w t = length-take w t

pub take_min : (m : ℕ) (l : List ℕ) → take (min (length l) m) l ≡ take m l
take_min m l =
    ⊎_elim
    (λ h. let e : min (length l) m ≡ m = omega arith in rw e)
    (λ h. let e : min (length l) m ≡ length l = omega arith in rw (e, take_all m l h) (take-length l))
    (cases_lt m (length l))

pub front : (w n a : ℕ) (xs : List ℕ) → length xs ≡ w → a ≡ min n w → (take n xs ≡ take a xs) × (length (take a xs) ≡ a)
front w n a xs lx ea =
    let e : a ≡ min (length xs) n = omega arith in
    (sym (rw (e, take_min n xs)), length-take a xs ∙ omega arith)

-- the part of `more` that fits behind n bytes of xs
clip-at : (w n a k : ℕ) (xs more : List ℕ) → length xs ≡ w → a ≡ min n w → k ≡ min (length more) (w - a) → clip w (take n xs ++ more) ≡ take a xs ++ take k more
unfolding clip
clip-at w n a k xs more lx ea ek =
    let f = front w n a xs lx ea in
    let lw : w ≡ length (take a xs) + (w - a) = omega arith in
    let at : take w (take a xs ++ more) ≡ take a xs ++ take (w - a) more = ap (λ m. take m (take a xs ++ more)) lw ∙ take-append-add (take a xs) more (w - a) in
    rw (f.0, ek, take_min) at

-- a write behind n bytes of xs
pub pushed : (w n a k : ℕ) (xs more : List ℕ) → length xs ≡ w → a ≡ min n w → k ≡ min (length more) (w - a) → take (a + k) (written xs a more) ≡ clip w (take n xs ++ more)
unfolding written
pushed w n a k xs more lx ea ek =
    let e = clip-at w n a k xs more lx ea ek in
    rw e (same_lists _ _ (search (rules, places)) (λ i d l. grind (arith, places)))

-- and the bytes behind it
pub unpushed : (a k : ℕ) (xs more : List ℕ) → k ≡ min (length more) (length xs - a) → drop (a + k) (written xs a more) ≡ drop (a + k) xs
unfolding written
unpushed a k xs more ek = same_lists _ _ (search (rules, places)) (λ i d l. grind (arith, places))

pub finished : (w n a : ℕ) (xs ys : List ℕ) → length xs ≡ w → a ≡ min n w → ys ≡ replicate (w - a) 0 → put_mid a (w - a) xs ys ≡ padded w (take n xs)
unfolding padded
finished w n a xs ys lx ea ey =
    let f = front w n a xs lx ea in
    let over : length xs ≤ a + (w - a) = omega arith in
    let rest : drop (w - a) (drop a xs) ≡ [] = drop-drop (w - a) a xs ∙ drop_all (a + (w - a)) xs over in
    rw (f.0, f.1, ey, rest, append-nil)

-- a text out of its buffer
pub take-padded : (w : ℕ) (t : List ℕ) → take (length t) (padded w t) ≡ t
unfolding padded
take-padded w t = take-append_seam t _

-- a text that fits
pub clip-all : (w : ℕ) (t : List ℕ) → length t ≤ w → clip w t ≡ t
unfolding clip
clip-all w t h = take_all w t h

-- a buffer keeps its length
pub pushed-length : (a : List ℕ) (n : ℕ) (s : List ℕ) (r : ℕ) (b : List ℕ) → Pushed a n s r b → length b ≡ length a
pushed-length a n s r b p =
    let front : length (take r b) ≡ r = ap length p.text ∙ sym p.len in
    let back : length (drop r b) ≡ length a - r = ap length p.behind ∙ length-drop r a in
    let least : r ≡ min (length a) (length (take n a ++ s)) = p.len ∙ length-clip (length a) (take n a ++ s) in
    let whole : length (take r b) + length (drop r b) ≡ length b = sym (length-append (take r b) (drop r b)) ∙ ap length (take-append-drop r b) in
    omega arith

-- a push behind a push is one push
pub pushed_more : (a : List ℕ) (n : ℕ) (s : List ℕ) (r : ℕ) (b t : List ℕ) (q : ℕ) (c : List ℕ) → Pushed a n s r b → Pushed b r t q c → Pushed a n (s ++ t) q c
pushed_more a n s r b t q c x y =
    let w : length b ≡ length a = pushed-length a n s r b x in
    let join : clip (length b) (take r b ++ t) ≡ clip (length a) (take n a ++ (s ++ t)) = rw (w, x.text) (clip-more (length a) (take n a ++ s) t ∙ ap (clip (length a)) (append_assoc (take n a) s t)) in
    let front : length (take r b) ≡ r = ap length x.text ∙ sym x.len in
    let far : q ≡ min (length b) (length (take r b ++ t)) = y.len ∙ length-clip (length b) (take r b ++ t) in
    let sum = length-append (take r b) t in
    let least : r ≡ min (length a) (length (take n a ++ s)) = x.len ∙ length-clip (length a) (take n a ++ s) in
    let on : r + (q - r) ≡ q = omega arith in
    let back : drop q b ≡ drop q a = rw (← on) (sym (drop-drop (q - r) r b) ∙ ap (drop (q - r)) x.behind ∙ drop-drop (q - r) r a) in
    record { len = y.len ∙ ap length join; text = y.text ∙ join; behind = y.behind ∙ back }

-- and a push of nothing leaves all as it was
pub pushed_none : (a : List ℕ) (n : ℕ) → n ≤ length a → Pushed a n [] n a
pushed_none a n h =
    let short : length (take n a ++ []) ≤ length a = rw append-nil (simp length-take (omega arith)) in
    let same : clip (length a) (take n a ++ []) ≡ take n a = clip-all (length a) (take n a ++ []) short ∙ append-nil (take n a) in
    let size : length (take n a) ≡ n = length-take n a ∙ omega arith in
    record { len = sym size ∙ ap length (sym same); text = sym same; behind = refl }
