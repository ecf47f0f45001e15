-- What a span in lent memory means, and what a step leaves.
use Rattle.std.specs.Prelude.{◌≡◌, ℕ, ◌<◌, List, ◌++◌, length, take, map, codes, Result}
use Rattle.std.specs.Result.{MatchResult}
use Rattle.blocks.specs.Facts.{facts}
use Rattle.blocks.specs.Projections.{links_of, events_of}
use Rattle.conversion.specs.Spans.{Text, Span, arena_for, bytes_of}
use Rattle.conversion.specs.Steps.{link_of, event_of}
use Rattle.conversion.specs.Pieces.{given_text, form_text, piece_text, meta_pair, metric_pair}
use Rattle.conversion.specs.declared.pieces.Given.{Given}
use Rattle.conversion.specs.declared.pieces.Form.{Form}
use Rattle.conversion.specs.declared.pieces.Piece.{Piece}
use Rattle.conversion.specs.declared.pieces.MetaRow.{MetaRow}
use Rattle.conversion.specs.declared.pieces.Metric.{Metric}
use Rattle.conversion.specs.declared.unfinished.Head.{Head}
use Rattle.conversion.specs.declared.unfinished.UnfinishedSpan.{UnfinishedSpan}
use Rattle.conversion.specs.declared.dd_span.DdSpan.{DdSpan}

-- the block b, the arena a of which u bytes are used, the single fields, and the rows in use
abbrev pub span_of : List ℕ → List ℕ → ℕ → Head → List MetaRow → List Metric → Span
span_of b a u h rows metrics =
    record {
      service = piece_text b a h.service;
      name = piece_text b a h.name;
      resource = piece_text b a h.resource;
      type = piece_text b a h.span_type;
      trace_id = h.trace_id;
      span_id = h.span_id;
      parent_id = h.parent_id;
      start = h.start;
      duration = h.duration;
      error = h.error;
      meta = map (meta_pair b a) rows;
      metrics = map (metric_pair b a) metrics;
      links = map link_of (links_of (facts b).rows);
      events = map event_of (events_of (facts b).rows);
      arena = take u a;
    }

abbrev pub view : UnfinishedSpan → Span
view s = span_of s.block.now s.arena.now s.used s.head (take s.meta_len s.meta.now) (take s.metrics_len s.metrics)

-- what a finished span shows
abbrev pub shown : DdSpan → Span
shown d = view d.made

-- what no step changes: the block, how large the memory is, and that it is the memory that was lent
pub record Kept (s e : UnfinishedSpan) : Type 0 where
  pub block : e.block.now ≡ s.block.now
  pub room : length e.arena.now ≡ length s.arena.now
  pub rows : length e.meta.now ≡ length s.meta.now
  pub meta_name : e.meta.ghost_name ≡ s.meta.ghost_name
  pub arena_name : e.arena.ghost_name ≡ s.arena.ghost_name

-- a step from s to e that makes d, and one that cannot, since d needs a larger arena
pub record Made (s e : UnfinishedSpan) (d : Span) : Type 0 where
  pub kept : Kept s e
  pub is : view e ≡ d

pub record Failed (s e : UnfinishedSpan) (d : Span) : Type 0 where
  pub kept : Kept s e
  pub over : length s.arena.now < length d.arena

abbrev pub Step : {T E : Type 0} → Result T E → UnfinishedSpan → UnfinishedSpan → Span → Type 0
Step r s e d = MatchResult r (λ _. Made s e d) (λ _. Failed s e d)

-- a step F, of the number of rows and the block, on the span as it was
abbrev pub Does : {T E : Type 0} → Result T E → UnfinishedSpan → UnfinishedSpan → (ℕ → List ℕ → Span → Span) → Type 0
Does r s e F = Step r s e (F (length s.meta.now) s.block.now (view s))

-- what a text that is given means over the span's block, and one that lies in its block or arena
abbrev pub given_in : UnfinishedSpan → Given → Text
given_in s g = given_text s.block.now g

abbrev pub form_in : UnfinishedSpan → Form → Text
form_in s f = form_text s.block.now f

abbrev pub piece_in : UnfinishedSpan → Piece → Text
piece_in s p = piece_text s.block.now s.arena.now p

-- a text that is placed, whatever it is placed for
unfoldable pub placing : List ℕ → Span → Span
placing t s = record s { arena = s.arena ++ t }

unfoldable pub holding : Text → Span → Span
holding t s = record s { arena = s.arena ++ arena_for t }

-- two texts with a space between them
abbrev pub joined : Text → Text → List ℕ
joined a b = bytes_of a ++ (codes " " ++ bytes_of b)
