-- Where a row stands, as the code looks for it.
use Rattle.std.proofs.Common.{◌≡◌, ℕ, zero, suc, ◌+◌, ◌-◌, ◌<◌, ◌≤◌, Bool, true, false, cond, ◌&&◌, eqb, ◌⊎◌, List, [], ◌∷◌, length, drop, Some, sym, refl, ap, ◌∙◌, inl, inr, arith}
use Rattle.std.specs.Str.{bytes_eq}
use Rattle.std.specs.List.{find, range_with_len}
use Rattle.std.proofs.lemmas.List.{drop_more, drop_all, drop-drop}
use Rattle.std.proofs.Math.Bool.{and-true, and-false}
use Rattle.std.proofs.lemmas.Bool.{cond-false, eq-eqb, ne_eqb}
use Rattle.blocks.specs.declared.lists.List.{List as ListCase}
use Rattle.blocks.specs.declared.lists.List.TheVariants.{Span, Resource, Scope, Event, EventAttribute, Link, LinkAttribute}
use Rattle.blocks.specs.Lists.{list_number}
use Rattle.blocks.specs.Layout.{rows_in}
use Rattle.blocks.specs.Faults.{list_in}
use Rattle.blocks.specs.Facts.{RowFact, row_fact, row_facts}
use Rattle.blocks.specs.Faults.{counted, above}
use Rattle.drafts.specs.Search.{count, ownerless, hit, place_from}
use Rattle.drafts.specs.Code.{plain_from}
use Rattle.blocks.proofs.Projected.{length-rows, get_or-rows}

-- the counts of rows, one row further
pub above-none : (m : List ℕ) (l : ℕ) → 0 ≡ above m l 0
unfolding above
above-none m l = refl

pub above-next : (m : List ℕ) (l i : ℕ) → above m l (i + 1) ≡ counted (above m l i) (list_in m i) l
unfolding above
above-next m l i = let e : i + 1 ≡ suc i = omega arith in rw e

-- the row i and those behind it
pub rows_more : (m : List ℕ) (i : ℕ) → i < rows_in m → drop i (row_facts m) ≡ row_fact m i ∷ drop (i + 1) (row_facts m)
rows_more m i h =
    let e = get_or-rows m i (row_fact m i) h in
    drop_more (row_facts m) i (row_fact m i) (omega (arith, length-rows m)) ∙ ap (λ x. x ∷ drop (i + 1) (row_facts m)) e

pub rows_all : (m : List ℕ) (i : ℕ) → rows_in m ≤ i → drop i (row_facts m) ≡ []
rows_all m i h = drop_all i (row_facts m) (omega (arith, length-rows m))

-- rows of the list h from i on
count-drop : (h n : ℕ) (rs : List RowFact) → count h (drop n rs) ≤ count h rs
count-drop h zero rs = omega arith
count-drop h (suc n) [] = omega arith
count-drop h (suc n) (r ∷ rs) = omega (arith, count-drop h n rs)

pub count-from : (h : ℕ) (rs : List RowFact) (i j : ℕ) → i ≤ j → count h (drop j rs) ≤ count h (drop i rs)
count-from h rs i j le =
    let e : i + (j - i) ≡ j = omega arith in
    let d = drop-drop (j - i) i rs ∙ ap (λ n. drop n rs) e in
    rw d at (count-drop h (j - i) (drop i rs))

pub count_none : (m : List ℕ) (h i : ℕ) → rows_in m ≤ i → count h (drop i (row_facts m)) ≡ 0
count_none m h i le = ap (count h) (rows_all m i le)

pub count-here : (m : List ℕ) (h i : ℕ) → i < rows_in m → list_in m i ≡ h → 0 < count h (drop i (row_facts m))
count-here m h i lt e = rw (rows_more m i lt, eq-eqb (list_in m i) h e) (omega arith)

pub count-not : (m : List ℕ) (h i : ℕ) → i < rows_in m → (list_in m i ≡ h → ⊥) → count h (drop i (row_facts m)) ≡ count h (drop (i + 1) (row_facts m))
count-not m h i lt ne = rw (rows_more m i lt, ne_eqb (list_in m i) h ne) (omega arith)

-- the row j has this list and key
abbrev pub is_keyed : List ℕ → ℕ → List ℕ → ℕ → Bool
is_keyed m l k j = eqb (row_fact m j).list l && bytes_eq (row_fact m j).key k

-- the search from i on, over n rows
found-by : (m : List ℕ) (l : ℕ) (k : List ℕ) (i n : ℕ) → i + n ≡ rows_in m → find (is_keyed m l k) (range_with_len i n) ≡ plain_from l k i (drop i (row_facts m))
found-by m l k i zero e = ap (plain_from l k i) (sym (rows_all m i (omega arith)))
found-by m l k i (suc n) e =
    ap (λ o. cond (is_keyed m l k i) (Some i) o) (found-by m l k (i + 1) n (omega arith)) ∙ ap (plain_from l k i) (sym (rows_more m i (omega arith)))

pub found-keyed : (m : List ℕ) (l : ℕ) (k : List ℕ) (i : ℕ) → i ≤ rows_in m → find (is_keyed m l k) (range_with_len i (rows_in m - i)) ≡ plain_from l k i (drop i (row_facts m))
found-keyed m l k i h = found-by m l k i (rows_in m - i) (omega arith)

-- where nothing from here on begins another owner, each row counts
abbrev Settled : ℕ → List RowFact → Type 0
Settled l [] = Unit {0}
Settled l (r ∷ rs) = (ownerless l (r ∷ rs) ≡ true) × Settled l rs

plain_place : (l : ℕ) (k : List ℕ) (i : ℕ) (rs : List RowFact) → Settled l rs → place_from l k i rs ≡ plain_from l k i rs
plain_place l k i [] h = refl
plain_place l k i (r ∷ rs) h =
    let c : hit l k r rs ≡ (eqb r.list l && bytes_eq r.key k) = ap (λ z. eqb r.list l && (bytes_eq r.key k && z)) h.0 ∙ ap (λ z. eqb r.list l && z) (and-true (bytes_eq r.key k)) in
    let ih = plain_place l k (i + 1) rs h.1 in
    ap (λ b. cond b (Some i) (place_from l k (i + 1) rs)) c ∙ ap (λ o. cond (eqb r.list l && bytes_eq r.key k) (Some i) o) ih

-- rows before an owner do not count
skip : (l : ℕ) (k : List ℕ) (i n : ℕ) (rs : List RowFact) → ((j : ℕ) → j < n → j < length rs → ownerless l (drop j rs) ≡ false) → n ≤ length rs → place_from l k i rs ≡ place_from l k (i + n) (drop n rs)
skip l k i zero rs h le = let e : i + 0 ≡ i = omega arith in rw e
skip l k i (suc n) [] h le = absurd (omega arith)
skip l k i (suc n) (r ∷ rs) h le =
    let z : ownerless l (r ∷ rs) ≡ false = h 0 (omega arith) (omega arith) in
    let x : hit l k r rs ≡ false = ap (λ z. eqb r.list l && (bytes_eq r.key k && z)) z ∙ ap (λ z. eqb r.list l && z) (and-false (bytes_eq r.key k)) ∙ and-false (eqb r.list l) in
    let ih = skip l k (i + 1) n rs (λ j lt len. h (suc j) (omega arith) (omega arith)) (omega arith) in
    let e : i + 1 + n ≡ i + suc n = omega arith in
    cond-false (hit l k r rs) _ _ x ∙ ih ∙ ap (λ y. place_from l k y (drop n rs)) e

-- `h` is the list of the owners, whose attributes and themselves are found behind the last of them
abbrev pub OwnedBy : ℕ → ℕ → Type 0
OwnedBy l h = (rs : List RowFact) → ownerless l rs ≡ eqb (count h rs) 0

abbrev pub Unowned : ℕ → Type 0
Unowned l = (rs : List RowFact) → ownerless l rs ≡ true

settled_owned : (l h : ℕ) → OwnedBy l h → (rs : List RowFact) → count h rs ≡ 0 → Settled l rs
settled_owned l h o [] z = tt
settled_owned l h o (r ∷ rs) z = (o (r ∷ rs) ∙ eq-eqb (count h (r ∷ rs)) 0 z, settled_owned l h o rs (omega arith))

settled-unowned : (l : ℕ) → Unowned l → (rs : List RowFact) → Settled l rs
settled-unowned l o [] = tt
settled-unowned l o (r ∷ rs) = (o (r ∷ rs), settled-unowned l o rs)

pub plain_unowned : (l : ℕ) (k : List ℕ) (m : List ℕ) → Unowned l → plain_from l k 0 (drop 0 (row_facts m)) ≡ place_from l k 0 (row_facts m)
plain_unowned l k m o = sym (plain_place l k 0 (row_facts m) (settled-unowned l o (row_facts m)))

pub plain_owned : (l h : ℕ) (k : List ℕ) (m : List ℕ) (n : ℕ) → OwnedBy l h → n ≤ rows_in m → count h (drop n (row_facts m)) ≡ 0 → ((j : ℕ) → j < n → 0 < count h (drop j (row_facts m)))
    → plain_from l k n (drop n (row_facts m)) ≡ place_from l k 0 (row_facts m)
plain_owned l h k m n o le z some =
    let e : 0 + n ≡ n = omega arith in
    let s = skip l k 0 n (row_facts m) (λ j lt len. o (drop j (row_facts m)) ∙ ne_eqb (count h (drop j (row_facts m))) 0 (λ q. let p = some j lt in omega arith)) (omega (arith, length-rows m)) in
    sym (s ∙ ap (λ y. place_from l k y (drop n (row_facts m))) e ∙ plain_place l k n (drop n (row_facts m)) (settled_owned l h o (drop n (row_facts m)) z))

-- which lists have owners
pub by_events : (l : ListCase) → (l ≡ Event) ⊎ (l ≡ EventAttribute) → OwnedBy (list_number l) 3
by_events l (inl e) rs = rw e
by_events l (inr e) rs = rw e

pub by_links : (l : ListCase) → (l ≡ Link) ⊎ (l ≡ LinkAttribute) → OwnedBy (list_number l) 5
by_links l (inl e) rs = rw e
by_links l (inr e) rs = rw e

pub by-none : (l : ListCase) → (l ≡ Event → ⊥) → (l ≡ EventAttribute → ⊥) → (l ≡ Link → ⊥) → (l ≡ LinkAttribute → ⊥) → Unowned (list_number l)
by-none Span a b c d rs = refl
by-none Resource a b c d rs = refl
by-none Scope a b c d rs = refl
by-none Event a b c d rs = absurd (a refl)
by-none EventAttribute a b c d rs = absurd (b refl)
by-none Link a b c d rs = absurd (c refl)
by-none LinkAttribute a b c d rs = absurd (d refl)
