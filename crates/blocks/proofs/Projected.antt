-- What the search finds, in the words of the projections.
use Rattle.std.proofs.Common.{◌≡◌, ℕ, zero, suc, ◌+◌, ◌-◌, ◌<◌, ◌≤◌, Bool, true, false, cond, List, [], ◌∷◌, map, length, get_or, Some, None, Option, IfSome, filter, unwrap_or, sym, refl, ap, ◌∙◌, arith}
use Rattle.std.specs.Option.{option_map}
use Rattle.std.specs.List.{range_with_len, slice_get}
use Rattle.std.proofs.lemmas.Bool.{eqb-true}
use Rattle.std.proofs.lemmas.List.{length-map}
use Rattle.std.proofs.lemmas.Option.{slice_get-get_or, slice_get_past, slice_get-map}
use Rattle.std.proofs.lemmas.List.FromFn.{length-map-range_with_len, get_or-map-range_with_len}
use Rattle.blocks.specs.declared.lists.Owner.{Owner}
use Rattle.blocks.specs.declared.lists.Owner.TheVariants.{Event, Link}
use Rattle.blocks.specs.Layout.{rows_in}
use Rattle.blocks.specs.Lists.{owner_list, owned_list}
use Rattle.blocks.specs.Faults.{list_in}
use Rattle.blocks.specs.Facts.{RowFact, row_fact, facts_from, row_facts}
use Rattle.blocks.specs.Places.{is_of, places_of, rows_from, attributes_of, Behind}
use Rattle.blocks.specs.Projections.{in_list, of_list, up_to, Owned, owning, owned_by, nth_head}

map-cond : {X Y : Type 0} (f : X → Y) (b : Bool) (x : X) (xs : List X) (ys : List Y) → ys ≡ map f xs → cond b (f x ∷ ys) ys ≡ map f (cond b (x ∷ xs) xs)
map-cond f true x xs ys e = ap (λ zs. f x ∷ zs) e
map-cond f false x xs ys e = e

kept_map : {X Y : Type 0} (f : X → Y) (p : Y → Bool) (xs : List X) → filter p (map f xs) ≡ map f (filter (λ x. p (f x)) xs)
kept_map f p [] = refl
kept_map f p (x ∷ xs) = map-cond f (p (f x)) x (filter (λ x. p (f x)) xs) _ (kept_map f p xs)

-- the rows of a list are those at its places
list-places : (m : List ℕ) (l i n : ℕ) → of_list l (rows_from m i n) ≡ map (row_fact m) (places_of m l i n)
unfolding of_list rows_from places_of
list-places m l i n = kept_map (row_fact m) (in_list l) (range_with_len i n)

pub nth_list : (m : List ℕ) (l i n k : ℕ) → slice_get (of_list l (rows_from m i n)) k ≡ option_map (row_fact m) (slice_get (places_of m l i n) k)
nth_list m l i n k = ap (λ xs. slice_get xs k) (list-places m l i n) ∙ slice_get-map (row_fact m) (places_of m l i n) k

pub length-list : (m : List ℕ) (l i n : ℕ) → length (places_of m l i n) ≡ length (of_list l (rows_from m i n))
length-list m l i n = sym (ap length (list-places m l i n) ∙ length-map (places_of m l i n) (row_fact m))

-- the facts of rows are a map over their numbers
pub facts_mapped : (m : List ℕ) (i n : ℕ) → facts_from m i n ≡ map (row_fact m) (range_with_len i n)
unfolding facts_from
facts_mapped m i zero = refl
facts_mapped m i (suc n) =
    let e : suc i ≡ i + 1 = omega arith in
    ap (λ xs. row_fact m i ∷ xs) (ap (λ j. facts_from m j n) e ∙ facts_mapped m (i + 1) n)

pub rows_mapped : (m : List ℕ) → row_facts m ≡ map (row_fact m) (range_with_len 0 (rows_in m))
rows_mapped m = facts_mapped m 0 (rows_in m)

pub length-rows : (m : List ℕ) → length (row_facts m) ≡ rows_in m
length-rows m = ap length (rows_mapped m) ∙ length-map-range_with_len (row_fact m) 0 (rows_in m)

pub get_or-rows : (m : List ℕ) (j : ℕ) (d : RowFact) → j < rows_in m → get_or (row_facts m) j d ≡ row_fact m j
get_or-rows m j d h = ap (λ xs. get_or xs j d) (rows_mapped m) ∙ get_or-map-range_with_len (row_fact m) 0 (rows_in m) j j d h (omega arith)

pub whole : (m : List ℕ) → rows_from m 0 (rows_in m - 0) ≡ row_facts m
unfolding rows_from
whole m = let e : rows_in m - 0 ≡ rows_in m = omega arith in ap (λ n. map (row_fact m) (range_with_len 0 n)) e ∙ sym (rows_mapped m)

-- a row by its number
pub row-there : (m : List ℕ) (i : ℕ) → i < rows_in m → slice_get (row_facts m) i ≡ Some (row_fact m i)
row-there m i h =
    let e = length-map-range_with_len (row_fact m) 0 (rows_in m) in
    ap (λ xs. slice_get xs i) (rows_mapped m) ∙ (slice_get-get_or (map (row_fact m) (range_with_len 0 (rows_in m))) i (row_fact m i) (omega arith) ∙ ap Some (get_or-map-range_with_len (row_fact m) 0 (rows_in m) i i (row_fact m i) h (omega arith)))

pub row-past : (m : List ℕ) (i : ℕ) → rows_in m ≤ i → slice_get (row_facts m) i ≡ None
row-past m i h = let e = length-map-range_with_len (row_fact m) 0 (rows_in m) in ap (λ xs. slice_get xs i) (rows_mapped m) ∙ slice_get_past (map (row_fact m) (range_with_len 0 (rows_in m))) i (omega arith)

-- events and links are the rows of their lists
heads-cond : (b : Bool) (r : RowFact) (us : List RowFact) (os : List Owned) (rs : List RowFact) → map (λ (o : Owned). o.head) os ≡ rs → map (λ (o : Owned). o.head) (cond b (record { head = r; attributes = us } ∷ os) os) ≡ cond b (r ∷ rs) rs
heads-cond true r us os rs e = ap (λ xs. r ∷ xs) e
heads-cond false r us os rs e = e

pub heads : (h a : ℕ) (rows : List RowFact) → map (λ (o : Owned). o.head) (owning h a rows) ≡ of_list h rows
unfolding owning of_list
heads h a [] = refl
heads h a (r ∷ rs) = heads-cond (in_list h r) r _ (owning h a rs) _ (heads h a rs)

nth-head : (h a : ℕ) (rows : List RowFact) (n : ℕ) → slice_get (of_list h rows) n ≡ nth_head (owning h a rows) n
nth-head h a rows n = ap (λ xs. slice_get xs n) (sym (heads h a rows)) ∙ slice_get-map (λ (o : Owned). o.head) (owning h a rows) n

pub nth_owner : (o : Owner) (rows : List RowFact) (n : ℕ) → slice_get (of_list (owner_list o) rows) n ≡ nth_head (owned_by o rows) n
nth_owner Event rows n = nth-head 3 4 rows n
nth_owner Link rows n = nth-head 5 6 rows n

-- a place lies behind where the search began
low-cond : (b : Bool) (i d k : ℕ) (xs : List ℕ) → ((k : ℕ) → i + 1 ≤ unwrap_or (slice_get xs k) d) → i ≤ unwrap_or (slice_get (cond b (i ∷ xs) xs) k) d
low-cond true i d zero xs f = omega arith
low-cond true i d (suc k) xs f = let h = f k in omega arith
low-cond false i d k xs f = let h = f k in omega arith

places-low : (m : List ℕ) (l n i d k : ℕ) → i + n ≤ d → i ≤ unwrap_or (slice_get (places_of m l i n) k) d
unfolding places_of
places-low m l zero i d k h = omega arith
places-low m l (suc n) i d k h = low-cond (is_of m l i) i d k (places_of m l (i + 1) n) (λ j. places-low m l n (i + 1) d j (omega arith))

-- the rows above the next of a list
up_to-cond : (b : Bool) (m : List ℕ) (i e : ℕ) (xs : List ℕ) (us : List RowFact) → us ≡ rows_from m (i + 1) (unwrap_or (slice_get xs 0) e - (i + 1)) → i + 1 ≤ unwrap_or (slice_get xs 0) e → cond b [] (row_fact m i ∷ us) ≡ rows_from m i (unwrap_or (slice_get (cond b (i ∷ xs) xs) 0) e - i)
unfolding rows_from
up_to-cond true m i e xs us p h = let z : i - i ≡ 0 = omega arith in rw z
up_to-cond false m i e xs us p h = let s : unwrap_or (slice_get xs 0) e - i ≡ suc (unwrap_or (slice_get xs 0) e - (i + 1)) = omega arith in rw s (ap (λ rs. row_fact m i ∷ rs) p)

pub up_to_run : (m : List ℕ) (h n i e : ℕ) → i + n ≡ e → up_to h (rows_from m i n) ≡ rows_from m i (unwrap_or (slice_get (places_of m h i n) 0) e - i)
unfolding up_to rows_from places_of
up_to_run m h zero i e p = let z : e - i ≡ 0 = omega arith in rw z
up_to_run m h (suc n) i e p =
    up_to-cond (is_of m h i) m i e (places_of m h (i + 1) n) _
    (up_to_run m h n (i + 1) e (omega arith))
    (places-low m h n (i + 1) e 0 (omega arith))

-- the n-th owner, by its place
abbrev pub owned_at : List ℕ → ℕ → ℕ → ℕ → ℕ → Owned
owned_at m h a e j = record { head = row_fact m j; attributes = of_list a (up_to h (rows_from m (j + 1) (e - (j + 1)))) }

owns-cond : {Y : Type 0} (f : ℕ → Y) (b : Bool) (i k : ℕ) (xs : List ℕ) (y : Y) (ys : List Y) → y ≡ f i → ((k : ℕ) → slice_get ys k ≡ option_map f (slice_get xs k)) → slice_get (cond b (y ∷ ys) ys) k ≡ option_map f (slice_get (cond b (i ∷ xs) xs) k)
owns-cond f true i zero xs y ys e g = ap Some e
owns-cond f true i (suc k) xs y ys e g = g k
owns-cond f false i k xs y ys e g = g k

pub owning-at : (m : List ℕ) (h a n i e k : ℕ) → i + n ≡ e → slice_get (owning h a (rows_from m i n)) k ≡ option_map (owned_at m h a e) (slice_get (places_of m h i n) k)
unfolding owning rows_from places_of
owning-at m h a zero i e k p = refl
owning-at m h a (suc n) i e k p =
    let q : n ≡ e - (i + 1) = omega arith in
    owns-cond (owned_at m h a e) (is_of m h i) i k (places_of m h (i + 1) n) _ (owning h a (rows_from m (i + 1) n))
    (ap (λ x. record { head = row_fact m i; attributes = of_list a (up_to h (rows_from m (i + 1) x)) }) q)
    (λ j. owning-at m h a n (i + 1) e j (omega arith))

owning-whole : (m : List ℕ) (h a k : ℕ) → slice_get (owning h a (row_facts m)) k ≡ option_map (owned_at m h a (rows_in m)) (slice_get (places_of m h 0 (rows_in m - 0)) k)
owning-whole m h a k = ap (λ rs. slice_get (owning h a rs) k) (sym (whole m)) ∙ owning-at m h a (rows_in m - 0) 0 (rows_in m) k (omega arith)

-- what stands under the k-th owner
under-none : (m : List ℕ) (h a k : ℕ) → None ≡ slice_get (places_of m h 0 (rows_in m - 0)) k → None ≡ option_map attributes_of (slice_get (owning h a (row_facts m)) k)
under-none m h a k e = sym (ap (option_map attributes_of) (owning-whole m h a k ∙ ap (option_map (owned_at m h a (rows_in m))) (sym e)))

under-run : (m : List ℕ) (h a k j t : ℕ) → j < rows_in m → Some j ≡ slice_get (places_of m h 0 (rows_in m - 0)) k → t ≡ unwrap_or (slice_get (places_of m h (j + 1) (rows_in m - (j + 1))) 0) (rows_in m) → Some (of_list a (rows_from m (j + 1) (t - (j + 1)))) ≡ option_map attributes_of (slice_get (owning h a (row_facts m)) k)
under-run m h a k j t l e f =
    let u = up_to_run m h (rows_in m - (j + 1)) (j + 1) (rows_in m) (omega arith) ∙ ap (λ x. rows_from m (j + 1) (x - (j + 1))) (sym f) in
    sym (ap (option_map attributes_of) (owning-whole m h a k ∙ ap (option_map (owned_at m h a (rows_in m))) (sym e)) ∙ ap (λ rs. Some (of_list a rs)) u)

pub under_none : (m : List ℕ) (o : Owner) (k : ℕ) → None ≡ slice_get (places_of m (owner_list o) 0 (rows_in m - 0)) k → None ≡ option_map attributes_of (slice_get (owned_by o (row_facts m)) k)
under_none m Event k e = under-none m 3 4 k e
under_none m Link k e = under-none m 5 6 k e

pub under_run : (m : List ℕ) (o : Owner) (k j t : ℕ) → j < rows_in m → Some j ≡ slice_get (places_of m (owner_list o) 0 (rows_in m - 0)) k → t ≡ unwrap_or (slice_get (places_of m (owner_list o) (j + 1) (rows_in m - (j + 1))) 0) (rows_in m) → Some (of_list (owned_list o) (rows_from m (j + 1) (t - (j + 1)))) ≡ option_map attributes_of (slice_get (owned_by o (row_facts m)) k)
under_run m Event k j t l e f = under-run m 3 4 k j t l e f
under_run m Link k j t l e f = under-run m 5 6 k j t l e f

-- a run behind the k-th owner, which stands at j
kept-cond : {X : Type 0} (p : X → Bool) (b : Bool) (x y : X) (ys : List X) (k : ℕ) → (b ≡ true → p y ≡ true) → ((n : ℕ) → Some x ≡ slice_get ys n → p x ≡ true) → Some x ≡ slice_get (cond b (y ∷ ys) ys) k → p x ≡ true
kept-cond p true x y ys zero f g e = let i : x ≡ y = cc in ap p i ∙ f refl
kept-cond p true x y ys (suc k) f g e = g k e
kept-cond p false x y ys k f g e = g k e

pub kept_holds : {X : Type 0} (p : X → Bool) (x : X) (xs : List X) (k : ℕ) → Some x ≡ slice_get (filter p xs) k → p x ≡ true
kept_holds p x [] k e = absurd (cc)
kept_holds p x (y ∷ ys) k e = kept-cond p (p y) x y (filter p ys) k (λ h. h) (kept_holds p x ys) e

next_within : (o : Option ℕ) (from n : ℕ) → IfSome o (λ i. (from ≤ i) × (i < n)) → unwrap_or o n ≤ n
next_within None from n h = omega arith
next_within (Some i) from n h = let l = h.1 in omega arith

pub run_behind : (m : List ℕ) (l k j t n : ℕ) (o : Option ℕ) → n ≡ rows_in m → Some j ≡ slice_get (places_of m l 0 (rows_in m - 0)) k → IfSome o (λ i. (j + 1 ≤ i) × (i < n)) → t ≡ unwrap_or o n → Behind m l (record { start = j + 1; end = t })
unfolding places_of
run_behind m l k j t n o r e w f =
    let p : is_of m l j ≡ true = kept_holds (is_of m l) j (range_with_len 0 (rows_in m - 0)) k e in
    let b = next_within o (j + 1) n w in
    record { row = j; start = refl; list = eqb-true (list_in m j) l p; within = omega arith }
