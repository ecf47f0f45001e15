-- Rows by key: what the search by numbers finds, and what events and links have under their keys.
use Rattle.std.proofs.Common.{◌≡◌, ℕ, zero, suc, ◌+◌, ◌-◌, ◌<◌, ◌≤◌, Bool, true, false, cond, not, ◌&&◌, ◌||◌, List, [], ◌∷◌, ◌++◌, map, length, filter, Some, None, Option, unwrap_or, sym, refl, ap, ◌∙◌, arith, pos, ◌==◌}
use Rattle.std.specs.List.{slice_get, range_with_len, list_any}
use Rattle.std.specs.Option.{option_map, option_flatten}
use Rattle.std.specs.Str.{bytes_eq}
use Rattle.std.proofs.Math.Bool.{or_assoc, or-false}
use Rattle.std.proofs.lemmas.Bool.{cond-true, cond-false, false≢true}
use Rattle.std.proofs.lemmas.List.{length-map}
use Rattle.std.proofs.lemmas.Option.{slice_get-map}
use Rattle.std.proofs.lemmas.Slice.Eq.{bytes_eq-Decides}
use Rattle.keyed.specs.Keyed.{insert, inserts, keys, among, new, last}
use Rattle.keyed.proofs.Inserted.{map-map, inserts-all}
use Rattle.blocks.specs.Facts.{RowFact, row_fact}
use Rattle.blocks.specs.Places.{rows_from}
use Rattle.blocks.specs.Projections.{Owned, of_list}
use Rattle.span_args.specs.ReadingOf.{or_row}
use Rattle.conversion.specs.ByKey.{key_of, keys_once, last_with, keyed_row, by_key, count_by_key, nth_by_key, key_at, has_key, is_above, is_first}
use Rattle.conversion.specs.Spans.{Text, lent, same_text}

-- ---- insertions of rows
ins : List RowFact → RowFact → List RowFact
ins [] r = r ∷ []
ins (q ∷ m) r = cond (bytes_eq q.key r.key) (r ∷ m) (q ∷ ins m r)

ins_all : List RowFact → List RowFact → List RowFact
ins_all m [] = m
ins_all m (r ∷ rs) = ins_all (ins m r) rs

-- g reads a row as a pair whose key is the row's
module _ {K V : Type 0} (same : K → K → Bool) (g : RowFact → K × V) (h : (q r : RowFact) → same (g q).0 (g r).0 ≡ bytes_eq q.key r.key) where
  ins-cond : (t : Bool) (q r : RowFact) (m n : List RowFact) (ps : List (K × V)) → ps ≡ map g n → cond t (g r ∷ map g m) (g q ∷ ps) ≡ map g (cond t (r ∷ m) (q ∷ n))
  ins-cond true q r m n ps e = refl
  ins-cond false q r m n ps e = ap (λ xs. g q ∷ xs) e

  insert-mapped : (m : List RowFact) (r : RowFact) → insert same (map g m) (g r).0 (g r).1 ≡ map g (ins m r)
  unfolding ins
  insert-mapped [] r = refl
  insert-mapped (q ∷ m) r =
      ap (λ t. cond t (g r ∷ map g m) (g q ∷ insert same (map g m) (g r).0 (g r).1)) (h q r)
      ∙ ins-cond (bytes_eq q.key r.key) q r m (ins m r) _ (insert-mapped m r)

  inserts-mapped : (rows m : List RowFact) → inserts same (map g m) (map g rows) ≡ map g (ins_all m rows)
  unfolding ins_all
  inserts-mapped [] m = refl
  inserts-mapped (r ∷ rs) m = ap (λ ps. inserts same ps (map g rs)) (insert-mapped m r) ∙ inserts-mapped rs (ins m r)

snd-keyed : (rows : List RowFact) → map (λ (p : List ℕ × RowFact). p.1) (map keyed_row rows) ≡ rows
snd-keyed [] = refl
snd-keyed (r ∷ rs) = ap (λ xs. r ∷ xs) (snd-keyed rs)

by_key-ins : (rows : List RowFact) → by_key rows ≡ ins_all [] rows
unfolding by_key
by_key-ins rows = ap (map (λ (p : List ℕ × RowFact). p.1)) (inserts-mapped bytes_eq keyed_row (λ q r. refl) rows []) ∙ snd-keyed (ins_all [] rows)

-- what a row gives under its key, by key
module _ {V : Type 0} (f : RowFact → V) where
  abbrev entry : RowFact → Text × V
  entry r = (lent r.key, f r)

  pub entries-by_key : (rows : List RowFact) → inserts same_text [] (map entry rows) ≡ map entry (by_key rows)
  entries-by_key rows = inserts-mapped same_text entry (λ q r. refl) rows [] ∙ ap (map entry) (sym (by_key-ins rows))

  pub length-entries : (rows : List RowFact) → length (inserts same_text [] (map entry rows)) ≡ length (by_key rows)
  length-entries rows = ap length (entries-by_key rows) ∙ length-map (by_key rows) entry

  pub nth-entry : {W : Type 0} (show : Text × V → W) (rows : List RowFact) (i : ℕ) → slice_get (map show (inserts same_text [] (map entry rows))) i ≡ option_map (λ r. show (lent r.key, f r)) (slice_get (by_key rows) i)
  nth-entry show rows i =
      ap (λ ps. slice_get ps i) (ap (map show) (entries-by_key rows) ∙ map-map show entry (by_key rows))
      ∙ slice_get-map (λ r. show (lent r.key, f r)) (by_key rows) i

-- ---- the last row with a key, and the keys once
last-or : (o : Option RowFact) (t : Bool) (r d : RowFact) → unwrap_or o (cond t r d) ≡ unwrap_or (or_row o (cond t (Some r) None)) d
last-or None true r d = refl
last-or None false r d = refl
last-or (Some q) t r d = refl

last-with : (k : List ℕ) (rows : List RowFact) (d : RowFact) → last bytes_eq d k (map keyed_row rows) ≡ unwrap_or (last_with k rows) d
last-with k [] d = refl
last-with k (r ∷ rs) d = last-with k rs (cond (bytes_eq r.key k) r d) ∙ last-or (last_with k rs) (bytes_eq r.key k) r d

keys-rows : (rows : List RowFact) → keys (map keyed_row rows) ≡ map key_of rows
keys-rows [] = refl
keys-rows (r ∷ rs) = ap (λ ks. r.key ∷ ks) (keys-rows rs)

by_key-keys : (d : RowFact) (rows : List RowFact) → by_key rows ≡ map (λ k. last bytes_eq d k (map keyed_row rows)) (keys_once rows)
unfolding by_key keys_once
by_key-keys d rows =
    ap (map (λ (p : List ℕ × RowFact). p.1)) (inserts-all bytes_eq bytes_eq-Decides d (map keyed_row rows))
    ∙ map-map (λ (p : List ℕ × RowFact). p.1) (λ k. (k, last bytes_eq d k (map keyed_row rows))) (new bytes_eq [] (keys (map keyed_row rows)))
    ∙ ap (λ ks. map (λ k. last bytes_eq d k (map keyed_row rows)) (new bytes_eq [] ks)) (keys-rows rows)

-- some row
abbrev none_such : RowFact
none_such = record { list = 0; key = []; kind = 0; value = []; time = pos 0 }

length-by_key : (rows : List RowFact) → length (keys_once rows) ≡ length (by_key rows)
length-by_key rows = sym (ap length (by_key-keys none_such rows) ∙ length-map (keys_once rows) _)

nth-by_key : (d : RowFact) (rows : List RowFact) (i : ℕ) → slice_get (by_key rows) i ≡ option_map (λ k. last bytes_eq d k (map keyed_row rows)) (slice_get (keys_once rows) i)
nth-by_key d rows i = ap (λ rs. slice_get rs i) (by_key-keys d rows) ∙ slice_get-map _ (keys_once rows) i

-- ---- of the n-th event or link, where its attributes are known
count-none : (o : Option Owned) → None ≡ option_map (λ (o : Owned). o.attributes) o → None ≡ option_map (λ (o : Owned). length (by_key o.attributes)) o
count-none None e = refl
count-none (Some o) e = absurd (let z : ◌≡◌ {A = ℕ} 0 1 = cc in omega arith)

count-some : (o : Option Owned) (rows : List RowFact) → Some rows ≡ option_map (λ (o : Owned). o.attributes) o → Some (length (keys_once rows)) ≡ option_map (λ (o : Owned). length (by_key o.attributes)) o
count-some None rows e = absurd (let z : ◌≡◌ {A = ℕ} 0 1 = cc in omega arith)
count-some (Some o) rows e = let f : rows ≡ o.attributes = cc in ap Some (ap (λ rs. length (keys_once rs)) f ∙ length-by_key o.attributes)

pub no_count : (os : List Owned) (n : ℕ) → None ≡ option_map (λ (o : Owned). o.attributes) (slice_get os n) → None ≡ count_by_key os n
no_count os n e = count-none (slice_get os n) e

pub counted : (os : List Owned) (n k : ℕ) (rows : List RowFact) → Some rows ≡ option_map (λ (o : Owned). o.attributes) (slice_get os n) → k ≡ length (keys_once rows) → Some k ≡ count_by_key os n
counted os n k rows e f = ap Some f ∙ count-some (slice_get os n) rows e

nth-none : (o : Option Owned) (i : ℕ) → None ≡ option_map (λ (o : Owned). o.attributes) o → None ≡ option_flatten (option_map (λ (o : Owned). slice_get (by_key o.attributes) i) o)
nth-none None i e = refl
nth-none (Some o) i e = absurd (let z : ◌≡◌ {A = ℕ} 0 1 = cc in omega arith)

nth-some : (o : Option Owned) (i : ℕ) (rows : List RowFact) → Some rows ≡ option_map (λ (o : Owned). o.attributes) o → slice_get (by_key rows) i ≡ option_flatten (option_map (λ (o : Owned). slice_get (by_key o.attributes) i) o)
nth-some None i rows e = absurd (let z : ◌≡◌ {A = ℕ} 0 1 = cc in omega arith)
nth-some (Some o) i rows e = let f : rows ≡ o.attributes = cc in ap (λ rs. slice_get (by_key rs) i) f

pub no_owner : (os : List Owned) (n i : ℕ) → None ≡ option_map (λ (o : Owned). o.attributes) (slice_get os n) → None ≡ nth_by_key os n i
no_owner os n i e = nth-none (slice_get os n) i e

pub no_key : (os : List Owned) (n i : ℕ) (rows : List RowFact) → Some rows ≡ option_map (λ (o : Owned). o.attributes) (slice_get os n) → None ≡ slice_get (keys_once rows) i → None ≡ nth_by_key os n i
no_key os n i rows e f = ap (option_map (λ k. last bytes_eq none_such k (map keyed_row rows))) f ∙ sym (nth-by_key none_such rows i) ∙ nth-some (slice_get os n) i rows e

row_found : (os : List Owned) (n i : ℕ) (rows : List RowFact) (k : List ℕ) (d : RowFact) → Some rows ≡ option_map (λ (o : Owned). o.attributes) (slice_get os n) → Some k ≡ slice_get (keys_once rows) i → Some (unwrap_or (last_with k rows) d) ≡ nth_by_key os n i
row_found os n i rows k d e f =
    ap Some (sym (last-with k rows d))
    ∙ ap (option_map (λ x. last bytes_eq d x (map keyed_row rows))) f
    ∙ sym (nth-by_key d rows i)
    ∙ nth-some (slice_get os n) i rows e

unwrap_or-map : (b : List ℕ) (o : Option ℕ) (j : ℕ) → row_fact b (unwrap_or o j) ≡ unwrap_or (option_map (row_fact b) o) (row_fact b j)
unwrap_or-map b None j = refl
unwrap_or-map b (Some x) j = refl

-- the key stands first in the row j, and last in the row o
pub row_answered : (b : List ℕ) (os : List Owned) (n i j x : ℕ) (o : Option ℕ) (rows : List RowFact) (k : List ℕ) (q : RowFact) → Some rows ≡ option_map (λ (o : Owned). o.attributes) (slice_get os n) → Some (key_at b j) ≡ slice_get (keys_once rows) i → k ≡ key_at b j → option_map (row_fact b) o ≡ last_with k rows → x ≡ unwrap_or o j → q ≡ row_fact b x → Some q ≡ nth_by_key os n i
row_answered b os n i j x o rows k q e f g h u v =
    ap Some (v ∙ ap (row_fact b) u ∙ unwrap_or-map b o j ∙ ap (λ r. unwrap_or r (row_fact b j)) h)
    ∙ row_found os n i rows k (row_fact b j) e (ap Some g ∙ f)

-- ---- keys by the numbers of rows
among-push : (x k : List ℕ) (seen : List (List ℕ)) → among bytes_eq x (seen ++ k ∷ []) ≡ (among bytes_eq x seen || bytes_eq k x)
among-push x k [] = or-false (bytes_eq k x)
among-push x k (s ∷ seen) = ap (λ t. bytes_eq s x || t) (among-push x k seen) ∙ sym (or_assoc (bytes_eq s x) (among bytes_eq x seen) (bytes_eq k x))

any-push : (p : ℕ → Bool) (n s i : ℕ) → s + n ≡ i → list_any p (range_with_len s (suc n)) ≡ (list_any p (range_with_len s n) || p i)
any-push p zero s i e = let f : s ≡ i = omega arith in rw f (or-false (p i))
any-push p (suc n) s i e = ap (λ t. p s || t) (any-push p n (s + 1) i (omega arith)) ∙ sym (or_assoc (p s) (list_any p (range_with_len (s + 1) n)) (p i))

-- a key that is known already
known : (t u : Bool) → (u ≡ true → t ≡ true) → (t || u) ≡ t
known true u h = refl
known false true h = sym (h refl)
known false false h = refl

bytes_eq_key : (a b : List ℕ) → bytes_eq a b ≡ true → a ≡ b
bytes_eq_key a b h = (bytes_eq-Decides a b).0 h

-- rows by their numbers, and those of the list l from the number s on
module _ (f : ℕ → RowFact) (l s : ℕ) where
  abbrev is_seen : ℕ → List ℕ → Bool
  is_seen i k = list_any (λ j. has_key l k (f j)) (range_with_len s (i - s))

  abbrev is_new : ℕ → Bool
  is_new i = (f i).list == l && not (is_seen i (f i).key)

  seen-next : (i : ℕ) (k : List ℕ) → s ≤ i → is_seen (i + 1) k ≡ (is_seen i k || has_key l k (f i))
  seen-next i k h = let e : i + 1 - s ≡ suc (i - s) = omega arith in ap (λ n. list_any (λ j. has_key l k (f j)) (range_with_len s n)) e ∙ any-push (λ j. has_key l k (f j)) (i - s) s i (omega arith)

  keys-cond : (t u : Bool) (i : ℕ) (r : RowFact) (F : List ℕ) (R : List RowFact) (seen : List (List ℕ)) → (f i).key ≡ r.key → among bytes_eq r.key seen ≡ u → ((t && not u) ≡ false → map (λ j. (f j).key) F ≡ new bytes_eq seen (map key_of R)) → ((t && not u) ≡ true → map (λ j. (f j).key) F ≡ new bytes_eq (seen ++ r.key ∷ []) (map key_of R)) → map (λ j. (f j).key) (cond (t && not u) (i ∷ F) F) ≡ new bytes_eq seen (map key_of (cond t (r ∷ R) R))
  keys-cond false u i r F R seen k e p q = p refl
  keys-cond true true i r F R seen k e p q = p refl ∙ sym (cond-true _ _ _ e)
  keys-cond true false i r F R seen k e p q = (λ j. k j ∷ q refl j) ∙ sym (cond-false _ _ _ e)

  -- what is seen is the same behind the row i: one more key, or none
  seen-kept : (t u : Bool) (i : ℕ) (k x : List ℕ) (seen : List (List ℕ)) → s ≤ i → (f i).key ≡ k → ((f i).list == l) ≡ t → among bytes_eq k seen ≡ u → (t && not u) ≡ false → among bytes_eq x seen ≡ is_seen i x → among bytes_eq x seen ≡ is_seen (i + 1) x
  seen-kept false u i k x seen h e a b c g = g ∙ sym (or-false (is_seen i x)) ∙ ap (λ z. is_seen i x || (z && bytes_eq (f i).key x)) (sym a) ∙ sym (seen-next i x h)
  seen-kept true false i k x seen h e a b c g = absurd (false≢true (sym c))
  seen-kept true true i k x seen h e a b c g =
      g
      ∙ sym (known (is_seen i x) (bytes_eq (f i).key x) (λ q. sym g ∙ ap (λ y. among bytes_eq y seen) (sym (bytes_eq_key (f i).key x q) ∙ e) ∙ b))
      ∙ ap (λ z. is_seen i x || (z && bytes_eq (f i).key x)) (sym a)
      ∙ sym (seen-next i x h)

  seen-more : (t u : Bool) (i : ℕ) (k x : List ℕ) (seen : List (List ℕ)) → s ≤ i → (f i).key ≡ k → ((f i).list == l) ≡ t → (t && not u) ≡ true → among bytes_eq x seen ≡ is_seen i x → among bytes_eq x (seen ++ k ∷ []) ≡ is_seen (i + 1) x
  seen-more false u i k x seen h e a c g = absurd (false≢true c)
  seen-more true u i k x seen h e a c g =
      among-push x k seen
      ∙ ap (λ z. z || bytes_eq k x) g
      ∙ ap (λ y. is_seen i x || bytes_eq y x) (sym e)
      ∙ ap (λ z. is_seen i x || (z && bytes_eq (f i).key x)) (sym a)
      ∙ sym (seen-next i x h)

  keys-from : (n i : ℕ) (seen : List (List ℕ)) → s ≤ i → ((x : List ℕ) → among bytes_eq x seen ≡ is_seen i x) → map (λ j. (f j).key) (filter is_new (range_with_len i n)) ≡ new bytes_eq seen (map key_of (of_list l (map f (range_with_len i n))))
  unfolding of_list
  keys-from zero i seen h g = refl
  keys-from (suc n) i seen h g =
      keys-cond ((f i).list == l) (is_seen i (f i).key) i (f i) (filter is_new (range_with_len (i + 1) n)) (of_list l (map f (range_with_len (i + 1) n))) seen refl
      (g (f i).key)
      (λ c. keys-from n (i + 1) seen (omega arith) (λ x. seen-kept _ _ i (f i).key x seen h refl refl (g (f i).key) c (g x)))
      (λ c. keys-from n (i + 1) (seen ++ (f i).key ∷ []) (omega arith) (λ x. seen-more _ _ i (f i).key x seen h refl refl c (g x)))

  keys-all : (n : ℕ) → map (λ j. (f j).key) (filter is_new (range_with_len s n)) ≡ keys_once (of_list l (map f (range_with_len s n)))
  unfolding keys_once
  keys-all n = let z : s - s ≡ 0 = omega arith in keys-from n s [] (omega arith) (λ x. ap (λ k. list_any (λ j. has_key l x (f j)) (range_with_len s k)) (sym z))

module _ (b : List ℕ) (l s n : ℕ) where
  keys-rows_from : map (key_at b) (filter (is_first b l s) (range_with_len s n)) ≡ keys_once (of_list l (rows_from b s n))
  unfolding is_first rows_from
  keys-rows_from = keys-all (row_fact b) l s n

  pub nth-key : (i : ℕ) → option_map (key_at b) (slice_get (filter (is_first b l s) (range_with_len s n)) i) ≡ slice_get (keys_once (of_list l (rows_from b s n))) i
  nth-key i = sym (slice_get-map (key_at b) _ i) ∙ ap (λ ks. slice_get ks i) keys-rows_from

  pub length-keys : length (filter (is_first b l s) (range_with_len s n)) ≡ length (keys_once (of_list l (rows_from b s n)))
  length-keys = sym (length-map _ (key_at b)) ∙ ap length keys-rows_from

module _ (b : List ℕ) (l s i : ℕ) where
  pub first-there : (t a : Bool) → t ≡ ((row_fact b i).list == l) → t ≡ true → a ≡ is_above b l s i (key_at b i) → not a ≡ is_first b l s i
  unfolding is_first
  first-there t a e h g = ap not g ∙ ap (λ x. x && not (is_above b l s i (key_at b i))) (sym h ∙ e)

  pub first-not : (t : Bool) → t ≡ ((row_fact b i).list == l) → t ≡ false → t ≡ is_first b l s i
  unfolding is_first
  first-not t e h = h ∙ ap (λ x. x && not (is_above b l s i (key_at b i))) (sym h ∙ e)

-- ---- the last row with a key, from the row i up to the row e, and else o
abbrev pub LastFrom : List ℕ → ℕ → List ℕ → ℕ → ℕ → Option RowFact → Option RowFact
LastFrom b l k e i o = or_row (last_with k (of_list l (rows_from b i (e - i)))) o

or_none : (o : Option RowFact) → or_row o None ≡ o
or_none None = refl
or_none (Some r) = refl

or_row_assoc : (a b c : Option RowFact) → or_row (or_row a b) c ≡ or_row a (or_row b c)
or_row_assoc None b c = refl
or_row_assoc (Some r) b c = refl

last-cond : (k : List ℕ) (t u : Bool) (r : RowFact) (R : List RowFact) (o : Option RowFact) → bytes_eq r.key k ≡ u → or_row (last_with k (cond t (r ∷ R) R)) o ≡ or_row (last_with k R) (or_row (cond (t && u) (Some r) None) o)
last-cond k false u r R o e = refl
last-cond k true u r R o e = or_row_assoc (last_with k R) _ o ∙ ap (λ x. or_row (last_with k R) (or_row (cond x (Some r) None) o)) e

pub last-none : (b : List ℕ) (l : ℕ) (k : List ℕ) (e s : ℕ) → LastFrom b l k e s None ≡ last_with k (of_list l (rows_from b s (e - s)))
last-none b l k e s = or_none _

module _ (b : List ℕ) (l : ℕ) (k : List ℕ) (e i : ℕ) (o : Option RowFact) where
  last-step : i < e → LastFrom b l k e i o ≡ LastFrom b l k e (i + 1) (or_row (cond (has_key l k (row_fact b i)) (Some (row_fact b i)) None) o)
  unfolding of_list rows_from
  last-step h =
      let z : e - i ≡ suc (e - (i + 1)) = omega arith in
      ap (λ n. or_row (last_with k (of_list l (rows_from b i n))) o) z
      ∙ last-cond k ((row_fact b i).list == l) _ (row_fact b i) (of_list l (rows_from b (i + 1) (e - (i + 1)))) o refl

  pub last-hit : i < e → has_key l k (row_fact b i) ≡ true → LastFrom b l k e i o ≡ LastFrom b l k e (i + 1) (Some (row_fact b i))
  last-hit h t = last-step h ∙ ap (λ x. LastFrom b l k e (i + 1) (or_row (cond x (Some (row_fact b i)) None) o)) t

  pub last-miss : i < e → has_key l k (row_fact b i) ≡ false → LastFrom b l k e i o ≡ LastFrom b l k e (i + 1) o
  last-miss h t = last-step h ∙ ap (λ x. LastFrom b l k e (i + 1) (or_row (cond x (Some (row_fact b i)) None) o)) t

  pub last-end : e ≤ i → LastFrom b l k e i o ≡ o
  unfolding of_list rows_from
  last-end h = let z : e - i ≡ 0 = omega arith in ap (λ n. or_row (last_with k (of_list l (rows_from b i n))) o) z
