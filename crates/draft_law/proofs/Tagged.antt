-- Rows under their identities: a call that is accepted is an insertion.
use Rattle.std.proofs.Common.{◌≡◌, ℕ, zero, suc, ◌+◌, ◌-◌, ◌<◌, ◌≤◌, Bool, true, false, cond, ◌&&◌, ◌||◌, eqb, ◌⊎◌, List, [], ◌∷◌, ◌++◌, map, length, get_or, drop, set, Some, None, Decides, sym, refl, ap, ◌∙◌, inl, inr, ⊎_elim, arith}
use Rattle.std.specs.Str.{bytes_eq}
use Rattle.std.proofs.lemmas.Bool.Decides.{nat_tests}
use Rattle.std.proofs.lemmas.Slice.Eq.{bytes_eq-Decides}
use Rattle.std.proofs.lemmas.Bool.{cases_Bool, and_parts, and_from, eqb-true, eq-eqb, ne_eqb, cond-true, cond-false}
use Rattle.keyed.specs.Keyed.{insert}
use Rattle.drafts.specs.Held.{Content, Id, same_id, id_of, row_of, owning}
use Rattle.blocks.specs.Facts.{RowFact}
use Rattle.drafts.specs.Search.{row_is_in, count, ownerless, hit, place_from}

pub same_id_decides : (a b : Id) → Decides (same_id a b) (a ≡ b)
same_id_decides a b = (
  λ t. let p = and_parts (eqb a.list b.list) _ t in
      let q = and_parts (bytes_eq a.key b.key) _ p.1 in
      let x = eqb-true a.list b.list p.0 in
      let y = (bytes_eq-Decides a.key b.key).0 q.0 in
      let z = eqb-true a.owner b.owner q.1 in
      λ i. record { list = x i; key = y i; owner = z i },
  λ e. and_from _ _ (eq-eqb _ _ (ap (λ (x : Id). x.list) e)) (and_from _ _ ((bytes_eq-Decides a.key b.key).1 (ap (λ (x : Id). x.key) e)) (eq-eqb _ _ (ap (λ (x : Id). x.owner) e))),
)

-- what a row says, and a row of what is said
abbrev pub content_of : RowFact → Content
content_of r = record { kind = r.kind; value = r.value; time = r.time }

abbrev pub row_from : ℕ → List ℕ → Content → RowFact
row_from l k v = record { list = l; key = k; kind = v.kind; value = v.value; time = v.time }

-- a row in its place, or at the end
abbrev pub put : ℕ → List ℕ → Content → List RowFact → List RowFact
put l k v [] = row_from l k v ∷ []
put l k v (r ∷ rs) = cond (hit l k r rs) (row_from l k v ∷ rs) (r ∷ put l k v rs)

-- rows under their identities, e events and f links before them
abbrev pub tagged : ℕ → ℕ → List RowFact → List (Id × Content)
tagged e f [] = []
tagged e f (r ∷ rs) = (id_of r.list r.key e f, content_of r) ∷ tagged (e + row_is_in 3 r) (f + row_is_in 5 r) rs

pub untagged : (e f : ℕ) (rs : List RowFact) → map (λ p. row_of p.0 p.1) (tagged e f rs) ≡ rs
untagged e f [] = refl
untagged e f (r ∷ rs) = ap (λ l. r ∷ l) (untagged (e + row_is_in 3 r) (f + row_is_in 5 r) rs)

-- what a hit tells
hit_tells : (l : ℕ) (k : List ℕ) (r : RowFact) (rs : List RowFact) → hit l k r rs ≡ true → (r.list ≡ l) × (r.key ≡ k) × (ownerless l (r ∷ rs) ≡ true)
hit_tells l k r rs t =
    let p = and_parts (eqb r.list l) _ t in
    let q = and_parts (bytes_eq r.key k) _ p.1 in
    (eqb-true _ _ p.0, (bytes_eq-Decides r.key k).0 q.0, q.1)

-- a hit is the same identity
owners : (a l e f n o : ℕ) → a ≡ l → owning l (eqb n 0) (eqb o 0) true ≡ eqb (owning a e f 0) (owning l (e + n) (f + o) 0)
owners a l e f n o h = rw h (by (eqb l 3 || eqb l 4) (eqb l 5 || eqb l 6))
  where
    by : (b d : Bool) → cond b (eqb n 0) (cond d (eqb o 0) true) ≡ eqb (cond b e (cond d f 0)) (cond b (e + n) (cond d (f + o) 0))
    by true d = grind (arith, nat_tests)
    by false true = grind (arith, nat_tests)
    by false false = refl

and_alike : (a b x y : Bool) → (a ≡ true → x ≡ y) → (a && (b && x)) ≡ (a && (b && y))
and_alike true b x y h = ap (λ z. b && z) (h refl)
and_alike false b x y h = refl

hit_same : (l : ℕ) (k : List ℕ) (e f : ℕ) (r : RowFact) (rs : List RowFact) → hit l k r rs ≡ same_id (id_of r.list r.key e f) (id_of l k (e + count 3 (r ∷ rs)) (f + count 5 (r ∷ rs)))
hit_same l k e f r rs = and_alike (eqb r.list l) (bytes_eq r.key k) _ _ (λ t. owners r.list l e f (count 3 (r ∷ rs)) (count 5 (r ∷ rs)) (eqb-true _ _ t))

same-owner : (l : ℕ) (k : List ℕ) (e f n o : ℕ) → owning l (eqb n 0) (eqb o 0) true ≡ true → id_of l k e f ≡ id_of l k (e + n) (f + o)
same-owner l k e f n o h =
    let x = eqb-true (owning l e f 0) (owning l (e + n) (f + o) 0) (sym (owners l l e f n o refl) ∙ h) in
    λ i. record { list = l; key = k; owner = x i }

pub tagged-put : (l : ℕ) (k : List ℕ) (v : Content) (e f : ℕ) (rs : List RowFact) → tagged e f (put l k v rs) ≡ insert same_id (tagged e f rs) (id_of l k (e + count 3 rs) (f + count 5 rs)) v
tagged-put l k v e f [] = let g : e + 0 ≡ e = omega arith in let h : f + 0 ≡ f = omega arith in rw (g, h)
tagged-put l k v e f (r ∷ rs) =
    ⊎_elim
    (λ t. let s = sym (hit_same l k e f r rs) ∙ t in
    let p = hit_tells l k r rs t in
    let a = p.0 in
    let o = same-owner l k e f (count 3 (r ∷ rs)) (count 5 (r ∷ rs)) p.2 in
    ap (tagged e f) (cond-true (hit l k r rs) _ _ t) ∙ ap (λ z. (z, v) ∷ tagged (e + cond (eqb l 3) 1 0) (f + cond (eqb l 5) 1 0) rs) o ∙ ap (λ z. (id_of l k (e + count 3 (r ∷ rs)) (f + count 5 (r ∷ rs)), v) ∷ tagged (e + cond (eqb z 3) 1 0) (f + cond (eqb z 5) 1 0) rs) (sym a) ∙ sym (cond-true _ _ _ s))
    (λ n. let s = sym (hit_same l k e f r rs) ∙ n in
    let ih = tagged-put l k v (e + row_is_in 3 r) (f + row_is_in 5 r) rs in
    let g : e + row_is_in 3 r + count 3 rs ≡ e + (row_is_in 3 r + count 3 rs) = omega arith in
    let h : f + row_is_in 5 r + count 5 rs ≡ f + (row_is_in 5 r + count 5 rs) = omega arith in
    let y : id_of l k (e + row_is_in 3 r + count 3 rs) (f + row_is_in 5 r + count 5 rs) ≡ id_of l k (e + count 3 (r ∷ rs)) (f + count 5 (r ∷ rs)) = λ i. id_of l k (g i) (h i) in
    ap (tagged e f) (cond-false (hit l k r rs) _ _ n) ∙ ap (λ x. (id_of r.list r.key e f, content_of r) ∷ x) (ih ∙ ap (λ y. insert same_id (tagged (e + row_is_in 3 r) (f + row_is_in 5 r) rs) y v) y) ∙ sym (cond-false _ _ _ s))
    (cases_Bool (hit l k r rs))

-- a head, 3 or 5, is never hit
never : (l : ℕ) (k : List ℕ) (r : RowFact) (rs : List RowFact) → (l ≡ 3) ⊎ (l ≡ 5) → hit l k r rs ≡ true → ⊥
never l k r rs (inl z) t = let p = hit_tells l k r rs t in let a = p.0 in let o : ownerless 3 (r ∷ rs) ≡ true = rw z at p.2 in let q = eqb-true (count 3 (r ∷ rs)) 0 o in let w : row_is_in 3 r ≡ 1 = rw (a ∙ z) in omega arith
never l k r rs (inr z) t = let p = hit_tells l k r rs t in let a = p.0 in let o : ownerless 5 (r ∷ rs) ≡ true = rw z at p.2 in let q = eqb-true (count 5 (r ∷ rs)) 0 o in let w : row_is_in 5 r ≡ 1 = rw (a ∙ z) in omega arith

pub count-put : (h : ℕ) → (h ≡ 3) ⊎ (h ≡ 5) → (l : ℕ) (k : List ℕ) (v : Content) (rs : List RowFact) → count h (put l k v rs) ≡ count h rs + cond (eqb l h) 1 0
count-put h is l k v [] = omega arith
count-put h is l k v (r ∷ rs) =
    ⊎_elim
    (λ t. let a = (hit_tells l k r rs t).0 in
    let ne : eqb l h ≡ false = ne_eqb l h (λ e. never l k r rs (⊎_elim (λ x. inl (e ∙ x)) (λ x. inr (e ∙ x)) is) t) in
    let b : row_is_in h r ≡ 0 = rw (a, ne) in
    ap (count h) (cond-true (hit l k r rs) _ _ t) ∙ omega (arith, ap (λ z. cond {A = ℕ} z 1 0) ne))
    (λ n. let ih = count-put h is l k v rs in ap (count h) (cond-false (hit l k r rs) _ _ n) ∙ omega arith)
    (cases_Bool (hit l k r rs))

-- an event or a link is always a row more
pub head-last : (l : ℕ) → (l ≡ 3) ⊎ (l ≡ 5) → (k : List ℕ) (v : Content) (rs : List RowFact) → put l k v rs ≡ rs ++ row_from l k v ∷ []
head-last l is k v [] = refl
head-last l is k v (r ∷ rs) =
    ⊎_elim
    (λ t. absurd (never l k r rs is t))
    (λ n. cond-false (hit l k r rs) _ _ n ∙ ap (λ l. r ∷ l) (head-last l is k v rs))
    (cases_Bool (hit l k r rs))

-- by the place that was found
pub put-none : (l : ℕ) (k : List ℕ) (v : Content) (i : ℕ) (rs : List RowFact) → place_from l k i rs ≡ None → put l k v rs ≡ rs ++ row_from l k v ∷ []
put-none l k v i [] h = refl
put-none l k v i (r ∷ rs) h =
    ⊎_elim
    (λ t. let z : ◌≡◌ {A = ℕ} 0 1 = let x = rw t at h in cc in absurd (omega arith))
    (λ n. rw n (ap (λ l. r ∷ l) (put-none l k v (i + 1) rs (rw n at h))))
    (cases_Bool (hit l k r rs))

pub record Placed (l : ℕ) (k : List ℕ) (v : Content) (i j : ℕ) (rs : List RowFact) : Type 0 where
  pub low : i ≤ j
  pub high : j < i + length rs
  pub put_is : put l k v rs ≡ set rs (j - i) (row_from l k v)
  pub list_is : (d : RowFact) → (get_or rs (j - i) d).list ≡ l
  pub key_is : (d : RowFact) → (get_or rs (j - i) d).key ≡ k

pub put_some : (l : ℕ) (k : List ℕ) (v : Content) (i j : ℕ) (rs : List RowFact) → place_from l k i rs ≡ Some j → Placed l k v i j rs
put_some l k v i j [] h = let z : ◌≡◌ {A = ℕ} 0 1 = cc in absurd (omega arith)
put_some l k v i j (r ∷ rs) h =
    ⊎_elim
    (λ t. let p = hit_tells l k r rs t in
    let x : Some i ≡ Some j = rw t at h in
    let e : i ≡ j = cc in
    let z : j - i ≡ 0 = omega arith in
    record { low = omega arith; high = omega arith; put_is = rw (t, z); list_is = λ d. rw z p.0; key_is = λ d. rw z p.1 })
    (λ n. let ih = put_some l k v (i + 1) j rs (rw n at h) in
    let z : j - i ≡ suc (j - (i + 1)) = omega (arith, ih.low) in
    record { low = omega (arith, ih.low); high = omega (arith, ih.high); put_is = cond-false (hit l k r rs) _ _ n ∙ rw z (ap (λ l. r ∷ l) ih.put_is); list_is = λ d. rw z (ih.list_is d); key_is = λ d. rw z (ih.key_is d) })
    (cases_Bool (hit l k r rs))

-- where none was found, none is hit
pub none-hit : (l : ℕ) (k : List ℕ) (i : ℕ) (rs : List RowFact) → place_from l k i rs ≡ None → (j : ℕ) (d : RowFact) → j < length rs → hit l k (get_or rs j d) (drop (j + 1) rs) ≡ false
none-hit l k i [] h j d lt = absurd (omega arith)
none-hit l k i (r ∷ rs) h zero d lt =
    ⊎_elim
    (λ t. let z : ◌≡◌ {A = ℕ} 0 1 = let x = rw t at h in cc in absurd (omega arith))
    (λ n. n)
    (cases_Bool (hit l k r rs))
none-hit l k i (r ∷ rs) h (suc j) d lt =
    ⊎_elim
    (λ t. let z : ◌≡◌ {A = ℕ} 0 1 = let x = rw t at h in cc in absurd (omega arith))
    (λ n. let e : suc j + 1 ≡ suc (j + 1) = omega arith in rw e (none-hit l k (i + 1) rs (rw n at h) j d (omega arith)))
    (cases_Bool (hit l k r rs))
