-- What a text that is placed leaves as it was.
use Rattle.std.proofs.Common.{◌≡◌, ℕ, ◌+◌, ◌-◌, ◌<◌, ◌≤◌, List, [], ◌∷◌, ◌++◌, map, length, take, refl, ap, ◌∙◌, arith, rules}
use Rattle.std.proofs.lemmas.List.{places, same_lists, append-nil, length-append, length-take}
use Rattle.lent_bytes.specs.Memory.{portion, written, padded}
use Rattle.lent_bytes.proofs.Frames.{portion_before, portion-written, length-written}
use Rattle.conversion.specs.Spans.{quoted, lent, placed, Span}
use Rattle.conversion.specs.Pieces.{piece_text, piece_end, rows_end, meta_end, metrics_end, meta_pair, metric_pair}
use Rattle.conversion.specs.View.{span_of, placing, holding}
use Rattle.conversion.specs.declared.pieces.Piece.{Piece}
use Rattle.conversion.specs.declared.pieces.Piece.TheVariants.{Constant, Block, Arena}
use Rattle.conversion.specs.declared.pieces.MetaRow.{MetaRow}
use Rattle.conversion.specs.declared.pieces.Metric.{Metric}
use Rattle.conversion.specs.declared.unfinished.Head.{Head}

-- m has the first u bytes of a
module _ (b a m : List ℕ) (u : ℕ) (same : (at n : ℕ) → at + n ≤ u → portion m at n ≡ portion a at n) where
  pub piece_stays : (p : Piece) → piece_end p ≤ u → piece_text b m p ≡ piece_text b a p
  piece_stays (Constant c) h = refl
  piece_stays (Block place len) h = refl
  piece_stays (Arena place len) h = ap placed (same place len h)

  pub meta_stays : (rows : List MetaRow) → meta_end rows ≤ u → map (meta_pair b m) rows ≡ map (meta_pair b a) rows
  unfolding rows_end
  meta_stays [] h = refl
  meta_stays (r ∷ rs) h = rw (piece_stays r.key (omega arith), piece_stays r.value (omega arith), meta_stays rs (omega arith))

  pub metrics_stay : (rows : List Metric) → metrics_end rows ≤ u → map (metric_pair b m) rows ≡ map (metric_pair b a) rows
  unfolding rows_end
  metrics_stay [] h = refl
  metrics_stay (r ∷ rs) h = rw (piece_stays r.key (omega arith), metrics_stay rs (omega arith))

  pub span_stays : (v : ℕ) (h : Head) (rows : List MetaRow) (metrics : List Metric) → piece_end h.service ≤ u → piece_end h.name ≤ u → piece_end h.resource ≤ u → piece_end h.span_type ≤ u → meta_end rows ≤ u → metrics_end metrics ≤ u
      → span_of b m v h rows metrics ≡ record (span_of b a u h rows metrics) { arena = take v m }
  span_stays v h rows metrics p q r s t w = rw (piece_stays h.service p, piece_stays h.name q, piece_stays h.resource r, piece_stays h.span_type s, meta_stays rows t, metrics_stay metrics w) refl

-- m is the arena after the write of x at u
module _ (b a x m : List ℕ) (u : ℕ) (e : m ≡ written a u x) where
  pub same_before : (at n : ℕ) → at + n ≤ u → portion m at n ≡ portion a at n
  same_before at n h = rw e (portion_before a u x at n h)

  pub arena_more : u + length x ≤ length a → take (u + length x) m ≡ take u a ++ x
  unfolding written
  arena_more h = rw e (same_lists _ _ (search (rules, places)) (λ k d l. grind (arith, places)))

  pub room_stays : length m ≡ length a
  room_stays = rw e (length-written a u x)

  pub reads_back : u + length x ≤ length a → portion m u (length x) ≡ x
  reads_back h = rw e (portion-written a u x (length x) refl h)

  pub view_placed : (h : Head) (rows : List MetaRow) (metrics : List Metric)
      → u + length x ≤ length a → piece_end h.service ≤ u → piece_end h.name ≤ u → piece_end h.resource ≤ u → piece_end h.span_type ≤ u → meta_end rows ≤ u → metrics_end metrics ≤ u
      → span_of b m (u + length x) h rows metrics ≡ placing x (span_of b a u h rows metrics)
  unfolding placing
  view_placed h rows metrics f p q r s t v =
      span_stays b a m u same_before (u + length x) h rows metrics p q r s t v ∙ ap (λ n. record (span_of b a u h rows metrics) { arena = n }) (arena_more f)

-- zeros behind the first u bytes
module _ (b a m : List ℕ) (u : ℕ) (e : m ≡ padded (length a) (take u a)) (f : u ≤ length a) where
  pub same_padded : (at n : ℕ) → at + n ≤ u → portion m at n ≡ portion a at n
  unfolding portion padded
  same_padded at n h = rw e (same_lists _ _ (search (rules, places)) (λ k d l. grind (arith, places)))

  pub length_padded : length m ≡ length a
  unfolding padded
  length_padded = rw e (search (rules, places))

  front_padded : take u m ≡ take u a
  unfolding padded
  front_padded = rw e (same_lists _ _ (search (rules, places)) (λ k d l. grind (arith, places)))

  pub view_cleared : (h : Head) (rows : List MetaRow) (metrics : List Metric) → piece_end h.service ≤ u → piece_end h.name ≤ u → piece_end h.resource ≤ u → piece_end h.span_type ≤ u → meta_end rows ≤ u → metrics_end metrics ≤ u
      → span_of b m u h rows metrics ≡ span_of b a u h rows metrics
  view_cleared h rows metrics p q r s t v = span_stays b a m u same_padded u h rows metrics p q r s t v ∙ ap (λ n. record (span_of b a u h rows metrics) { arena = n }) front_padded

-- what is placed is longer than the arena
pub placed_over : (a : List ℕ) (u : ℕ) (x : List ℕ) (s : Span) → s.arena ≡ take u a → u ≤ length a → length a - u < length x → length a < length (placing x s).arena
unfolding placing
placed_over a u x s e h f = rw e (simp (length-append, length-take) (omega arith))

-- what is held as it lies
pub held_quoted : (t : List ℕ) (s : Span) → holding (quoted t) s ≡ s
unfolding holding
held_quoted t s = rw append-nil refl

pub held_lent : (t : List ℕ) (s : Span) → holding (lent t) s ≡ s
unfolding holding
held_lent t s = rw append-nil refl

pub held_placed : (t : List ℕ) (s : Span) → holding (placed t) s ≡ placing t s
unfolding holding placing
held_placed t s = refl
