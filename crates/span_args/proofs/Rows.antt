-- The rows that were noted are the last of their keys.
use Rattle.std.proofs.Common.{◌≡◌, ℕ, zero, suc, ◌+◌, ◌<◌, ◌≤◌, Bool, true, false, cond, ◌&&◌, eqb, ltb, List, [], ◌∷◌, map, length, get_or, take, Some, None, Option, sym, refl, ap, ◌∙◌, arith}
use mathlib.Core.Path.{fun_ext}
use Rattle.std.specs.List.{range_with_len}
use Rattle.std.specs.Option.{option_map}
use Rattle.std.specs.Str.{bytes_eq}
use Rattle.std.proofs.lemmas.Bool.{cond-true, lt-ltb}
use Rattle.std.proofs.lemmas.List.{length-map, get_or-map, take_all}
use Rattle.names.specs.Keys.{keys, key_at, known}
use Rattle.names.specs.Places.{or_else, noted, last_from, last_place, LastAt}
use Rattle.names.proofs.Ends.{last_exactly_lem}
use Rattle.names.proofs.Lasts.{lasts_noted}
use Rattle.blocks.specs.Facts.{RowFact, facts, row_fact, row_facts}
use Rattle.blocks.specs.Layout.{rows_in}
use Rattle.span_args.specs.ReadingOf.{list_key, or_row, last_row_of, row_in, span_known, resource_shown, reading_of, reading_by}
use Rattle.blocks.proofs.Projected.{rows_mapped}

-- a function of the last place of a text that is not empty, and of the last row
module _ (g : ℕ → RowFact) (l : ℕ) where
  map_or : (a b : Option ℕ) → option_map g (or_else a b) ≡ or_row (option_map g a) (option_map g b)
  map_or None b = refl
  map_or (Some i) b = refl

  map-cond : (t : Bool) (i : ℕ) → option_map g (cond t (Some i) None) ≡ cond t (Some (g i)) None
  map-cond true i = refl
  map-cond false i = refl

  one : (b : Bool) (s : List ℕ) (i x : ℕ) (k : List ℕ) → option_map g (cond (bytes_eq (cond b s []) (x ∷ k)) (Some i) None) ≡ cond (b && bytes_eq s (x ∷ k)) (Some (g i)) None
  one true s i x k = map-cond (bytes_eq s (x ∷ k)) i
  one false s i x k = refl

  last : (n i x : ℕ) (k : List ℕ) → option_map g (last_from i (x ∷ k) (map (list_key l) (map g (range_with_len i n)))) ≡ last_row_of l (x ∷ k) (map g (range_with_len i n))
  unfolding last_from
  last zero i x k = refl
  last (suc n) i x k =
      let e : suc i ≡ i + 1 = omega arith in
      map_or (last_from (suc i) (x ∷ k) (map (list_key l) (map g (range_with_len (i + 1) n)))) (cond (bytes_eq (list_key l (g i)) (x ∷ k)) (Some i) None)
      ∙ ap (λ o. or_row o (option_map g (cond (bytes_eq (list_key l (g i)) (x ∷ k)) (Some i) None))) (ap (λ j. option_map g (last_from j (x ∷ k) (map (list_key l) (map g (range_with_len (i + 1) n))))) e ∙ last n (i + 1) x k)
      ∙ ap (or_row (last_row_of l (x ∷ k) (map g (range_with_len (i + 1) n)))) (one (eqb (g i).list l) (g i).key i x k)

length_counting : (n i : ℕ) → length (range_with_len i n) ≡ n
length_counting zero i = refl
length_counting (suc n) i = ap suc (length_counting n (i + 1))

get_or_counting : (n i j : ℕ) → j < n → get_or (range_with_len i n) j 0 ≡ i + j
get_or_counting zero i j h = absurd (omega arith)
get_or_counting (suc n) i zero h = omega arith
get_or_counting (suc n) i (suc j) h = get_or_counting n (i + 1) j (omega arith) ∙ omega arith

-- the keys of the rows of a list
abbrev pub list_keys : ℕ → List ℕ → List (List ℕ)
list_keys l m = map (list_key l) (row_facts m)

pub length-keys : (l : ℕ) (m : List ℕ) → length (list_keys l m) ≡ rows_in m
length-keys l m = ap (λ xs. length (map (list_key l) xs)) (rows_mapped m) ∙ length-map (map (row_fact m) (range_with_len 0 (rows_in m))) (list_key l) ∙ length-map (range_with_len 0 (rows_in m)) (row_fact m) ∙ length_counting (rows_in m) 0

pub key-at : (l : ℕ) (m : List ℕ) (i : ℕ) → i < rows_in m → get_or (list_keys l m) i [] ≡ list_key l (row_fact m i)
key-at l m i h =
    let c : i < length (range_with_len 0 (rows_in m)) = omega (arith, length_counting (rows_in m) 0) in
    let d : i < length (map (row_fact m) (range_with_len 0 (rows_in m))) = omega (arith, length-map (range_with_len 0 (rows_in m)) (row_fact m)) in
    let z : 0 + i ≡ i = omega arith in
    ap (λ xs. get_or (map (list_key l) xs) i []) (rows_mapped m)
    ∙ get_or-map (list_key l) (map (row_fact m) (range_with_len 0 (rows_in m))) i (row_fact m 0) [] d
    ∙ ap (list_key l) (get_or-map (row_fact m) (range_with_len 0 (rows_in m)) i 0 (row_fact m 0) c ∙ ap (row_fact m) (get_or_counting (rows_in m) 0 i h ∙ z))

-- a row that was noted is there
in_rows : (m k : List ℕ) (ks : List (List ℕ)) (o : Option ℕ) → length ks ≡ rows_in m → LastAt k ks o → row_in m o ≡ option_map (row_fact m) o
in_rows m k ks None e h = refl
in_rows m k ks (Some i) e h = let lt : i < rows_in m = omega (arith, h.0) in cond-true (ltb i (rows_in m)) _ _ (lt-ltb i (rows_in m) lt)

last_row : (l : ℕ) (m : List ℕ) (x : ℕ) (k : List ℕ) → row_in m (last_place (x ∷ k) (list_keys l m)) ≡ last_row_of l (x ∷ k) (row_facts m)
last_row l m x k =
    in_rows m (x ∷ k) (list_keys l m) (last_place (x ∷ k) (list_keys l m)) (length-keys l m) (last_exactly_lem (x ∷ k) (list_keys l m))
    ∙ ap (λ xs. option_map (row_fact m) (last_place (x ∷ k) (map (list_key l) xs))) (rows_mapped m)
    ∙ last (row_fact m) l (rows_in m) 0 x k
    ∙ ap (last_row_of l (x ∷ k)) (sym (rows_mapped m))

-- over a table with no empty text
abbrev solid : List (List ℕ) → Bool
solid [] = true
solid ([] ∷ ts) = false
solid ((x ∷ t) ∷ ts) = solid ts

module _ {X : Type 0} (f h : List ℕ → X) (each : (x : ℕ) (k : List ℕ) → f (x ∷ k) ≡ h (x ∷ k)) where
  map-solid : (ts : List (List ℕ)) → solid ts ≡ true → map f ts ≡ map h ts
  map-solid [] e = refl
  map-solid ([] ∷ ts) e = let z : ◌≡◌ {A = ℕ} 0 1 = cc in absurd (omega arith)
  map-solid ((x ∷ t) ∷ ts) e = rw (each x t, map-solid ts e)

through : {X : Type 0} (h : Option ℕ → Option X) (f : List ℕ → Option ℕ) → h None ≡ None → (ts : List (List ℕ)) (j : ℕ) → h (get_or (map f ts) j None) ≡ get_or (map (λ t. h (f t)) ts) j None
through h f e [] j = e
through h f e (t ∷ ts) zero = refl
through h f e (t ∷ ts) (suc j) = through h f e ts j

side : {X : Type 0} (show : RowFact → X) (l : ℕ) (m : List ℕ) (places : List (Option ℕ)) → places ≡ map (λ k. last_place k (list_keys l m)) keys → (j : ℕ) → option_map show (row_in m (get_or places j None)) ≡ get_or (map (λ k. option_map show (last_row_of l k (row_facts m))) keys) j None
side show l m places e j =
    ap (λ ps. option_map show (row_in m (get_or ps j None))) e
    ∙ through (λ o. option_map show (row_in m o)) (λ k. last_place k (list_keys l m)) refl keys j
    ∙ ap (λ os. get_or os j None) (map-solid (λ k. option_map show (row_in m (last_place k (list_keys l m)))) (λ k. option_map show (last_row_of l k (row_facts m))) (λ x k. ap (option_map show) (last_row l m x k)) keys refl)

-- the reading by the rows that were noted is that of the facts
pub read_by : (m : List ℕ) (spans resources : List (Option ℕ)) → spans ≡ map (λ k. last_place k (list_keys 0 m)) keys → resources ≡ map (λ k. last_place k (list_keys 1 m)) keys → reading_by m spans resources ≡ reading_of (facts m)
read_by m spans resources e f =
    let s = fun_ext (side span_known 0 m spans e) in
    let t = fun_ext (side resource_shown 1 m resources f) in
    rw (s, t)

-- one row more
pub noted-row : (l : ℕ) (m : List ℕ) (i : ℕ) (f : RowFact) (before after : List (Option ℕ)) → i < rows_in m → Some f ≡ cond (ltb i (rows_in m)) (Some (row_fact m i)) None → before ≡ map (λ k. last_place k (take i (list_keys l m))) keys → after ≡ noted (option_map key_at (known (list_key l f))) i before → after ≡ map (λ k. last_place k (take (i + 1) (list_keys l m))) keys
noted-row l m i f before after h e b a =
    let s : Some f ≡ Some (row_fact m i) = e ∙ cond-true (ltb i (rows_in m)) _ _ (lt-ltb i (rows_in m) h) in
    let r : f ≡ row_fact m i = cc in
    let lt : i < length (list_keys l m) = omega (arith, length-keys l m) in
    lasts_noted (list_keys l m) i (list_key l f) lt (key-at l m i h ∙ ap (list_key l) (sym r)) before after b a

pub no_row : (m : List ℕ) (i : ℕ) → i < rows_in m → None ≡ cond (ltb i (rows_in m)) (Some (row_fact m i)) None → ⊥
no_row m i h e =
    let s : None ≡ Some (row_fact m i) = e ∙ cond-true (ltb i (rows_in m)) _ _ (lt-ltb i (rows_in m) h) in
    let z : ◌≡◌ {A = ℕ} 0 1 = cc in
    omega arith

-- all rows
pub all-rows : (l : ℕ) (m : List ℕ) (i : ℕ) (places : List (Option ℕ)) → rows_in m ≤ i → places ≡ map (λ k. last_place k (take i (list_keys l m))) keys → places ≡ map (λ k. last_place k (list_keys l m)) keys
all-rows l m i places h e = e ∙ ap (λ ks. map (λ k. last_place k ks) keys) (take_all i (list_keys l m) (omega (arith, length-keys l m)))
