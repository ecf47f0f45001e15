-- Insertions one after another leave each key's last value, in the order of first appearance.
use Rattle.std.proofs.Common.{◌≡◌, Bool, true, false, cond, List, [], ◌∷◌, ◌++◌, map, Decides, sym, refl, ap, ◌∙◌, ⊎_elim}
use Rattle.std.proofs.lemmas.Bool.{cases_Bool, both_ways, or_parts, or_from, false≢true}
use Rattle.std.proofs.lemmas.List.{append-nil}
use Rattle.std.proofs.lemmas.Slice.Eq.{bytes_eq-Decides}
use Rattle.std.specs.Str.{bytes_eq}
use Rattle.keyed.specs.Keyed.{insert, inserts, keys, among, new, last, settled, InsertedInOrder}

pub map-map : {X Y Z : Type 0} (f : Y → Z) (g : X → Y) (xs : List X) → map f (map g xs) ≡ map (λ x. f (g x)) xs
map-map f g [] = refl
map-map f g (x ∷ xs) = ap (λ l. f (g x) ∷ l) (map-map f g xs)

map_push : {X Y : Type 0} (f : X → Y) (xs : List X) (y : X) (zs : List Y) → map f (xs ++ y ∷ []) ++ zs ≡ map f xs ++ (f y ∷ zs)
map_push f [] y zs = refl
map_push f (x ∷ xs) y zs = ap (λ l. f x ∷ l) (map_push f xs y zs)

-- no key twice
abbrev pub Apart : {K : Type 0} → (K → K → Bool) → List K → Type 0
Apart same [] = Unit {0}
Apart same (x ∷ xs) = (among same x xs ≡ false) × Apart same xs

-- `same` decides whether two keys are one
module _ {K : Type 0} (same : K → K → Bool) (dec : (a b : K) → Decides (same a b) (a ≡ b)) where
  swap : (a b : K) → same a b ≡ false → same b a ≡ false
  swap a b n = ⊎_elim (λ t. absurd (both_ways (same a b) n ((dec a b).1 (sym ((dec b a).0 t))))) (λ f. f) (cases_Bool (same b a))

  not-both : (k x : K) (xs : List K) → among same k xs ≡ true → among same x xs ≡ false → same k x ≡ false
  not-both k x xs t n = ⊎_elim (λ s. absurd (both_ways (among same x xs) n (rw ((dec k x).0 s) at t))) (λ f. f) (cases_Bool (same k x))

  among_push : (x y : K) (xs : List K) → among same x (xs ++ y ∷ []) ≡ false → (among same x xs ≡ false) × (same y x ≡ false)
  among_push x y [] n = (refl, (or_parts (same y x) false n).0)
  among_push x y (z ∷ xs) n =
      let q = or_parts (same z x) _ n in
      let r = among_push x y xs q.1 in
      (or_from _ _ q.0 r.0, r.1)

  push_among : (x y : K) (xs : List K) → among same x xs ≡ false → same y x ≡ false → among same x (xs ++ y ∷ []) ≡ false
  push_among x y [] n e = or_from _ _ e refl
  push_among x y (z ∷ xs) n e =
      let q = or_parts (same z x) _ n in
      or_from _ _ q.0 (push_among x y xs q.1 e)

  -- what is new is not among what was seen
  map-new : {Y : Type 0} (f g : K → Y) (seen ks : List K) → ((x : K) → among same x seen ≡ false → f x ≡ g x) → map f (new same seen ks) ≡ map g (new same seen ks)
  map-new f g seen [] h = refl
  map-new f g seen (k ∷ ks) h =
      ⊎_elim
      (λ t. rw t (map-new f g seen ks h))
      (λ n. let a = h k n in let b = map-new f g (seen ++ k ∷ []) ks (λ x l. h x (among_push x k seen l).0) in rw n (cc))
      (cases_Bool (among same k seen))

  apart_push : (xs : List K) (k : K) → Apart same xs → among same k xs ≡ false → Apart same (xs ++ k ∷ [])
  apart_push [] k a n = (refl, tt)
  apart_push (x ∷ xs) k a n =
      let q = or_parts (same x k) _ n in
      (push_among x k xs a.0 (swap x k q.0), apart_push xs k a.1 q.1)

module _ {K V : Type 0} (same : K → K → Bool) (dec : (a b : K) → Decides (same a b) (a ≡ b)) where
  -- a list whose elements are not k, under two functions that agree away from k
  map_away : {Y : Type 0} (f g : K × V → Y) (k : K) → ((p : K × V) → same p.0 k ≡ false → f p ≡ g p) → (m : List (K × V)) → among same k (keys m) ≡ false → map f m ≡ map g m
  map_away f g k h [] n = refl
  map_away f g k h (p ∷ m) n =
      let q = or_parts (same p.0 k) _ n in
      let a = h p q.0 in
      let b = map_away f g k h m q.1 in
      cc

  keys_push : (m : List (K × V)) (k : K) (v : V) → keys (m ++ (k, v) ∷ []) ≡ keys m ++ k ∷ []
  keys_push [] k v = refl
  keys_push (p ∷ m) k v = ap (λ l. p.0 ∷ l) (keys_push m k v)

  -- a key that is not there yet goes to the end
  pub insert-new : (m : List (K × V)) (k : K) (v : V) → among same k (keys m) ≡ false → insert same m k v ≡ m ++ (k, v) ∷ []
  insert-new [] k v n = refl
  insert-new (p ∷ m) k v n =
      let q = or_parts (same p.0 k) _ n in
      rw q.0 (ap (λ l. p ∷ l) (insert-new m k v q.1))

  -- m with v at each k
  abbrev put : List (K × V) → K → V → List (K × V)
  put m k v = map (λ p. (p.0, cond (same k p.0) v p.1)) m

  keys-put : (m : List (K × V)) (k : K) (v : V) → keys (put m k v) ≡ keys m
  keys-put [] k v = refl
  keys-put (p ∷ m) k v = ap (λ l. p.0 ∷ l) (keys-put m k v)

  map_same : (m : List (K × V)) → map (λ p. (p.0, p.1)) m ≡ m
  map_same [] = refl
  map_same (p ∷ m) = ap (λ l. p ∷ l) (map_same m)

  insert-old : (m : List (K × V)) (k : K) (v : V) → Apart same (keys m) → among same k (keys m) ≡ true → insert same m k v ≡ put m k v
  insert-old [] k v a t = absurd (false≢true t)
  insert-old (p ∷ m) k v a t =
      ⊎_elim
      (λ e. let i : p.0 ≡ k = (dec p.0 k).0 e in
      let n : among same k (keys m) ≡ false = rw i at a.0 in
      let j : same k p.0 ≡ true = (dec k p.0).1 (sym i) in
      let b : m ≡ put m k v = sym (map_same m) ∙ map_away (λ p. (p.0, p.1)) (λ p. (p.0, cond (same k p.0) v p.1)) k (λ q l. rw (swap same dec q.0 k l)) m n in
      rw (e, j) (cc))
      (λ e. let j : same k p.0 ≡ false = swap same dec p.0 k e in
      rw (e, j) (ap (λ l. p ∷ l) (insert-old m k v a.1 (rw e at t))))
      (cases_Bool (same p.0 k))

  -- from any list m of keys that are apart
  abbrev old : List (K × V) → List (K × V) → List (K × V)
  old ps m = map (λ p. (p.0, last same p.1 p.0 ps)) m

  abbrev fresh : V → List (K × V) → List K → List (K × V)
  fresh d ps ks = map (λ k. (k, last same d k ps)) ks

  pub inserts-from : (d : V) (ps m : List (K × V)) → Apart same (keys m) → inserts same m ps ≡ old ps m ++ fresh d ps (new same (keys m) (keys ps))
  inserts-from d [] m a = sym (append-nil _ ∙ map_same m)
  inserts-from d (q ∷ ps) m a =
      let k = q.0 in
      let v = q.1 in
      ⊎_elim
      (λ t. let i = insert-old m k v a t in
      let e = keys-put m k v in
      let ih = inserts-from d ps (put m k v) (rw e a) in
      let o : old ps (put m k v) ≡ old (q ∷ ps) m = map-map (λ p. (p.0, last same p.1 p.0 ps)) (λ p. (p.0, cond (same k p.0) v p.1)) m in
      let f : fresh d ps (new same (keys m) (keys ps)) ≡ fresh d (q ∷ ps) (new same (keys m) (keys ps)) = map-new same dec _ _ (keys m) (keys ps) (λ x n. rw (not-both same dec k x (keys m) t n)) in
      rw (i, t) (cc))
      (λ n. let i = insert-new m k v n in
      let e = keys_push m k v in
      let ih = inserts-from d ps (m ++ (k, v) ∷ []) (rw e (apart_push same dec (keys m) k a n)) in
      let s : same k k ≡ true = (dec k k).1 refl in
      let o : old ps m ≡ old (q ∷ ps) m = map_away _ _ k (λ p l. rw (swap same dec p.0 k l)) m n in
      let f : fresh d ps (new same (keys m ++ k ∷ []) (keys ps)) ≡ fresh d (q ∷ ps) (new same (keys m ++ k ∷ []) (keys ps)) = map-new same dec _ _ (keys m ++ k ∷ []) (keys ps) (λ x l. rw (among_push same dec x k (keys m) l).1) in
      let u = map_push (λ p. (p.0, last same p.1 p.0 ps)) m (k, v) (fresh d ps (new same (keys m ++ k ∷ []) (keys ps))) in
      rw (i, n, s) (cc))
      (cases_Bool (among same k (keys m)))

  -- from nothing
  pub inserts-all : (d : V) (ps : List (K × V)) → inserts same [] ps ≡ settled same d ps
  inserts-all d ps = inserts-from d ps [] tt

pub inserted_in_order_lem : InsertedInOrder
inserted_in_order_lem d ps = inserts-all bytes_eq bytes_eq-Decides d ps
