-- What is put under a key, by whether it stands there.
use Rattle.std.proofs.Common.{◌≡◌, ℕ, ◌+◌, ◌≤◌, cond, true, false, List, [], ◌∷◌, ◌++◌, length, take, Some, None, refl, ap, sym, ◌∙◌, arith, is_some}
use Rattle.std.specs.List.{position_from}
use Rattle.std.specs.Str.{bytes_eq}
use Rattle.std.proofs.lemmas.List.{take_all, append-nil, append_assoc, length-map, length-take}
use Rattle.std.proofs.lemmas.Bool.{cond-true, cond-false}
use Rattle.std.proofs.lemmas.Iterator.Adapters.{position_from-zero}
use Rattle.conversion.specs.Spans.{Text, Span, bytes_of, arena_for, found}
use Rattle.conversion.specs.Steps.{put, key_arena, put_meta, put_metric}
use Rattle.conversion.specs.Tables.{place_of, with_value, set_meta, push_meta, set_metric, push_metric}
use Rattle.conversion.specs.View.{view, holding}
use Rattle.conversion.specs.declared.unfinished.UnfinishedSpan.{UnfinishedSpan}
use Rattle.conversion.proofs.TableLemmas.{insert-found, insert-new, length-with_value}

is_some-found_from : {V : Type 0} (k : List ℕ) (m : List (Text × V)) (i : ℕ) → is_some (found k m) ≡ is_some (position_from (λ p. bytes_eq (bytes_of p.0) k) i m)
unfolding found
is_some-found_from k [] i = refl
is_some-found_from k (p ∷ m) i =
    elim (bytes_eq (bytes_of p.0) k) as (λ b. is_some (cond b (Some p.1) (found k m)) ≡ is_some (cond b (Some i) (position_from (λ q. bytes_eq (bytes_of q.0) k) (i + 1) m))) [
      | true ↦ refl
      | false ↦ is_some-found_from k m (i + 1)
    ]

pub is_some-found : {V : Type 0} (k : List ℕ) (m : List (Text × V)) → is_some (found k m) ≡ is_some (place_of k m)
is_some-found k m = is_some-found_from k m 0 ∙ ap is_some (sym (position_from-zero _ m))

key_arena-old : {V : Type 0} (k : Text) (m : List (Text × V)) (i : ℕ) → place_of (bytes_of k) m ≡ Some i → key_arena k m ≡ []
unfolding key_arena
key_arena-old k m i h = cond-true _ _ _ (is_some-found (bytes_of k) m ∙ ap is_some h)

key_arena-new : {V : Type 0} (k : Text) (m : List (Text × V)) → place_of (bytes_of k) m ≡ None → key_arena k m ≡ arena_for k
unfolding key_arena
key_arena-new k m h = cond-false _ _ _ (is_some-found (bytes_of k) m ∙ ap is_some h)

pub put-old : {V : Type 0} (n : ℕ) (k : Text) (v : V) (m : List (Text × V)) (i : ℕ) → length m ≤ n → place_of (bytes_of k) m ≡ Some i → put n k v m ≡ with_value i v m
unfolding put
put-old n k v m i l h =
    let f = insert-found k v m i h in
    ap (take n) f.1 ∙ take_all n (with_value i v m) (rw (length-with_value i v m) l)

pub put-new : {V : Type 0} (n : ℕ) (k : Text) (v : V) (m : List (Text × V)) → place_of (bytes_of k) m ≡ None → put n k v m ≡ take n (m ++ (k, v) ∷ [])
unfolding put
put-new n k v m h = ap (take n) (insert-new k v m h)

module _ (n : ℕ) (k v : Text) (s : Span) where
  pub put_meta-old : (i : ℕ) → length s.meta ≤ n → place_of (bytes_of k) s.meta ≡ Some i → put_meta n k v s ≡ set_meta i v (holding v s)
  unfolding put_meta set_meta holding
  put_meta-old i l h = rw (put-old n k v s.meta i l h, key_arena-old k s.meta i h) refl

  pub put_meta-new : place_of (bytes_of k) s.meta ≡ None → put_meta n k v s ≡ push_meta n k v (holding v (holding k s))
  unfolding put_meta push_meta holding
  put_meta-new h = rw (put-new n k v s.meta h, key_arena-new k s.meta h, append_assoc) refl

module _ (k : Text) (p : ℕ) (s : Span) where
  pub put_metric-old : (i : ℕ) → length s.metrics ≤ 130 → place_of (bytes_of k) s.metrics ≡ Some i → put_metric k p s ≡ set_metric i p s
  unfolding put_metric set_metric
  put_metric-old i l h = rw (put-old 130 k p s.metrics i l h, key_arena-old k s.metrics i h, append-nil) refl

  pub put_metric-new : place_of (bytes_of k) s.metrics ≡ None → put_metric k p s ≡ push_metric k p (holding k s)
  unfolding put_metric push_metric holding
  put_metric-new h = rw (put-new 130 k p s.metrics h, key_arena-new k s.metrics h) refl

-- no table has more rows than it has room for
pub view_rows : (s : UnfinishedSpan) → length (view s).meta ≤ length s.meta.now
view_rows s = simp (length-map, length-take) (omega arith)

pub view_metrics : (s : UnfinishedSpan) → length (view s).metrics ≤ 130
view_metrics s = let t = s.table in simp (length-map, length-take) (omega arith)

pub ruleset ways = (put_meta-old, put_meta-new, put_metric-old, put_metric-new, view_rows, view_metrics)
