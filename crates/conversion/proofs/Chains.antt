-- One step after another.
use Rattle.std.proofs.Common.{◌≡◌, ℕ, ◌≤◌, List, length, Ok, Err, Result, ◌∙◌, arith}
use Rattle.std.specs.Result.{IsErr}
use Rattle.conversion.specs.Spans.{Span}
use Rattle.conversion.specs.View.{view, Kept, Made, Failed, Step}
use Rattle.conversion.specs.declared.unfinished.UnfinishedSpan.{UnfinishedSpan}

-- where a `?` stops
pub step_failed : {T E : Type 0} (r : Result T E) (s e : UnfinishedSpan) (d : Span) → IsErr r → Failed s e d → Step r s e d
step_failed (Ok x) s e d h f = absurd (cc)
step_failed (Err x) s e d h f = f

pub kept_more : (a b c : UnfinishedSpan) → Kept a b → Kept b c → Kept a c
kept_more a b c p q = record { block = q.block ∙ p.block; room = q.room ∙ p.room; rows = q.rows ∙ p.rows; meta_name = q.meta_name ∙ p.meta_name; arena_name = q.arena_name ∙ p.arena_name }

pub failed_more : (a b : UnfinishedSpan) (x y : Span) → Failed a b x → length x.arena ≤ length y.arena → Failed a b y
failed_more a b x y f h = let o = f.over in record { kept = f.kept; over = omega arith }

pub failed_then : (a b c : UnfinishedSpan) (x y : Span) → Made a b x → Failed b c y → Failed a c y
failed_then a b c x y m f = let o = f.over in let r = m.kept.room in record { kept = kept_more a b c m.kept f.kept; over = omega arith }

-- a step F from b on, where a made b: n is the number of rows and m the block
module _ (F : ℕ → List ℕ → Span → Span) (a b c : UnfinishedSpan) (x : Span) where
  pub made_then : Made a b x → Made b c (F (length b.meta.now) b.block.now (view b)) → Made a c (F (length a.meta.now) a.block.now x)
  made_then p q = record { kept = kept_more a b c p.kept q.kept; is = q.is ∙ (λ i. F (p.kept.rows i) (p.kept.block i) (p.is i)) }

  pub fail_then : Made a b x → Failed b c (F (length b.meta.now) b.block.now (view b)) → Failed a c (F (length a.meta.now) a.block.now x)
  fail_then p q =
      let e : length (F (length b.meta.now) b.block.now (view b)).arena ≡ length (F (length a.meta.now) a.block.now x).arena = (λ i. length (F (p.kept.rows i) (p.kept.block i) (p.is i)).arena) in
      let o = q.over in
      let r = p.kept.room in
      record { kept = kept_more a b c p.kept q.kept; over = omega arith }

  pub step_then : {T E : Type 0} (r : Result T E) → Made a b x → Step r b c (F (length b.meta.now) b.block.now (view b)) → Step r a c (F (length a.meta.now) a.block.now x)
  step_then (Ok y) p q = made_then p q
  step_then (Err y) p q = fail_then p q

-- where a `?` stops before what would make y
pub stopped : {T E : Type 0} (r : Result T E) (s e : UnfinishedSpan) (x y : Span) → IsErr r → Failed s e x → length x.arena ≤ length y.arena → Step r s e y
stopped r s e x y h f l = step_failed r s e y h (failed_more s e x y f l)
