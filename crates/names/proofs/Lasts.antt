-- The last places of the known keys, with one more text.
use Rattle.std.proofs.Common.{◌≡◌, ℕ, suc, ◌+◌, ◌<◌, Bool, true, false, cond, List, [], ◌∷◌, ◌++◌, map, length, get_or, take, set, replicate, Some, None, Option, sym, refl, ap, ◌∙◌, inl, inr, arith}
use Rattle.std.specs.Str.{bytes_eq}
use Rattle.std.specs.Option.{option_map}
use Rattle.std.proofs.lemmas.Slice.Eq.{bytes_eq-Decides}
use Rattle.std.proofs.lemmas.List.{same_lists, length-map, length-set, length-take-le, get_or-map, get_or-set_same, get_or-set_other, take_more}
use Rattle.std.proofs.lemmas.Bool.{cond-true, cond-false, cases_Bool, cases_eq}
use Rattle.lent_bytes.specs.Lookup.{index_from, distinct, Found}
use Rattle.lent_bytes.proofs.Index.{index_found, looked_up_exactly, same_from}
use Rattle.names.specs.Keys.{keys, key_at, known}
use Rattle.names.specs.Places.{or_else, noted, last_from, last_place}
use Rattle.names.proofs.Known.{keys-distinct}

else_cond : (b : Bool) (m n : ℕ) (o c : Option ℕ) → m ≡ n → or_else (cond b (Some m) o) c ≡ cond b (Some n) (or_else o c)
else_cond true m n o c e = ap Some e
else_cond false m n o c e = refl

last_push : (i : ℕ) (k x : List ℕ) (xs : List (List ℕ)) → last_from i k (xs ++ x ∷ []) ≡ cond (bytes_eq x k) (Some (i + length xs)) (last_from i k xs)
unfolding last_from
last_push i k x [] = ap (λ n. cond (bytes_eq x k) (Some n) None) (omega arith)
last_push i k x (y ∷ ys) =
    ap (λ o. or_else o (cond (bytes_eq y k) (Some i) None)) (last_push (suc i) k x ys)
    ∙ else_cond (bytes_eq x k) (suc i + length ys) (i + suc (length ys)) (last_from (suc i) k ys) _ (omega arith)

module _ (k x : List ℕ) (ks : List (List ℕ)) where
  last-hit : k ≡ x → last_place k (ks ++ x ∷ []) ≡ Some (length ks)
  last-hit e = last_push 0 k x ks ∙ (cond-true _ _ _ (same_from x k (sym e)) ∙ ap Some (omega arith))

  last_miss : (k ≡ x → ⊥) → last_place k (ks ++ x ∷ []) ≡ last_place k ks
  last_miss n =
      elim (cases_Bool (bytes_eq x k)) [ inl t ↦ absurd (n (sym ((bytes_eq-Decides x k).0 t))) | inr f ↦ last_push 0 k x ks ∙ cond-false _ _ _ f ]

-- over any table: a text that it lacks changes nothing, and one at p is noted there and nowhere else
module _ (ts ks : List (List ℕ)) (x : List ℕ) where
  read : (js : List (List ℕ)) (q : ℕ) (d : Option ℕ) → q < length ts → get_or (map (λ k. last_place k js) ts) q d ≡ last_place (get_or ts q []) js
  read js q d l = get_or-map (λ k. last_place k js) ts q [] d l

  lasts_unknown : Found x ts None → map (λ k. last_place k (ks ++ x ∷ [])) ts ≡ map (λ k. last_place k ks) ts
  lasts_unknown n =
      same_lists _ _ (length-map ts _ ∙ sym (length-map ts _))
      (λ q d h. let l : q < length ts = omega (arith, length-map ts (λ k. last_place k (ks ++ x ∷ []))) in
      read (ks ++ x ∷ []) q d l ∙ (last_miss (get_or ts q []) x ks (n q l) ∙ sym (read ks q d l)))

  lasts_known : (p : ℕ) → distinct ts ≡ true → index_from 0 x ts ≡ Some p → Found x ts (Some p) → map (λ k. last_place k (ks ++ x ∷ [])) ts ≡ set (map (λ k. last_place k ks) ts) p (Some (length ks))
  lasts_known p u e (b, g) =
      same_lists _ _ (length-map ts _ ∙ sym (length-set _ p _ ∙ length-map ts _))
      (λ q d h. let l : q < length ts = omega (arith, length-map ts (λ k. last_place k (ks ++ x ∷ []))) in
      let m : p < length (map (λ k. last_place k ks) ts) = omega (arith, length-map ts (λ k. last_place k ks)) in
      read (ks ++ x ∷ []) q d l
      ∙ elim (cases_eq q p) [
        | inl s ↦ last-hit (get_or ts q []) x ks (ap (λ j. get_or ts j []) s ∙ g) ∙ sym (ap (λ j. get_or (set (map (λ k. last_place k ks) ts) p (Some (length ks))) j d) s ∙ get_or-set_same _ p _ d m)
        | inr s ↦ last_miss (get_or ts q []) x ks (λ t. let z : Some q ≡ Some p = sym ((looked_up_exactly ts u x).1 q l t) ∙ e in s (cc))
            ∙ sym (get_or-set_other _ p q _ d s ∙ read ks q d l)
      ])

-- the loop over the texts M, at the text x of place i
module _ (M : List (List ℕ)) (i : ℕ) (x : List ℕ) (l : i < length M) (at : get_or M i [] ≡ x) where
  more : take (i + 1) M ≡ take i M ++ x ∷ []
  more = take_more M i [] l ∙ ap (λ y. take i M ++ y ∷ []) at

  lasts_at : (o : Option ℕ) → known x ≡ o → Found x keys o → map (λ k. last_place k (take (i + 1) M)) keys ≡ noted (option_map key_at o) i (map (λ k. last_place k (take i M)) keys)
  lasts_at None e f = ap (λ js. map (λ k. last_place k js) keys) more ∙ lasts_unknown keys (take i M) x f
  lasts_at (Some p) e f =
      ap (λ js. map (λ k. last_place k js) keys) more
      ∙ (lasts_known keys (take i M) x p keys-distinct e f
      ∙ ap (λ j. set (map (λ k. last_place k (take i M)) keys) p (Some j)) (length-take-le i M (omega arith)))

  lasts_more : map (λ k. last_place k (take (i + 1) M)) keys ≡ noted (option_map key_at (known x)) i (map (λ k. last_place k (take i M)) keys)
  lasts_more = lasts_at (known x) refl (index_found x keys)

  pub lasts_noted : (before after : List (Option ℕ)) → before ≡ map (λ k. last_place k (take i M)) keys → after ≡ noted (option_map key_at (known x)) i before → after ≡ map (λ k. last_place k (take (i + 1) M)) keys
  lasts_noted before after e f = f ∙ (ap (noted (option_map key_at (known x)) i) e ∙ sym lasts_more)

-- before the first text no key has a place
pub lasts_none : map (λ k. last_place k []) keys ≡ replicate 43 None
unfolding last_from
lasts_none = refl
