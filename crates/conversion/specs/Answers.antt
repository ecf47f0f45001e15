-- What the conversion answers, and what it leaves in memory.
use Rattle.std.specs.Prelude.{◌≡◌, ℕ, ◌-◌, cond, List, ◌++◌, length, take, drop, replicate, Ok, Err, Result, nat_lt}
use Rattle.conversion.specs.Spans.{Span}
use Rattle.conversion.specs.Pieces.{no_row}
use Rattle.conversion.specs.View.{shown}
use Rattle.conversion.specs.declared.pieces.MetaRow.{MetaRow}
use Rattle.conversion.specs.declared.unfinished.UnfinishedSpan.{UnfinishedSpan}
use Rattle.conversion.specs.declared.dd_span.DdSpan.{DdSpan}
use Rattle.conversion.specs.Faults.{fault_number}
use Rattle.conversion.specs.declared.convert.ConvertRefused.{ConvertRefused}

-- of a table of n rows and an arena of w bytes, where the span is s
abbrev pub answer : ℕ → ℕ → Span → Result Span ℕ
answer n w s = cond (nat_lt n 398) (Err 30) (cond (nat_lt 65536 w) (Err 31) (cond (nat_lt w (length s.arena)) (Err 32) (Ok s)))

abbrev pub verdict : Result DdSpan ConvertRefused → Result Span ℕ
verdict (Ok d) = Ok (shown d)
verdict (Err e) = Err (fault_number e.fault)

-- empty rows behind the first n
abbrev pub Zeroed : ℕ → List MetaRow → List MetaRow → Type 0
Zeroed n before after = after ≡ take n before ++ replicate (length before - n) no_row

-- the memory of a span behind what it uses
pub record Tidy (d : UnfinishedSpan) : Type 0 where
  pub rows : drop d.meta_len d.meta.now ≡ replicate (length d.meta.now - d.meta_len) no_row
  pub bytes : drop d.used d.arena.now ≡ replicate (length d.arena.now - d.used) 0

-- the block, n empty rows and w zeros
pub record GivenBack (b : List ℕ) (n w : ℕ) (e : ConvertRefused) : Type 0 where
  pub span : e.span.block.now ≡ b
  pub meta : e.meta.now ≡ replicate n no_row
  pub arena : e.arena.now ≡ replicate w 0
