-- What is said to a draft: how it starts, and each call with the numbers and texts that it is given.
use Rattle.std.specs.Prelude.{ℕ, ◌^◌, ◌<◌, List, [], ◌∷◌, ℤ, FitsSigned}
use Rattle.std.specs.Int.{w64}
use Rattle.lent_bytes.specs.Memory.{Bytes}
use Rattle.drafts.specs.declared.start.Start.{Start}

-- the arguments of a start
pub record Opening : Type 0 where
  pub capacity : ℕ
  pub kind : ℕ
  pub trace_high : ℕ
  pub trace_low : ℕ
  pub span_id : ℕ
  pub parent_id : ℕ
  pub start : ℤ
  pub name : List ℕ
  pub trace_state : List ℕ
  pub scope_name : List ℕ
  pub scope_version : List ℕ

-- what the code's arguments mean
abbrev pub opening_of : Start → Opening
opening_of s =
    record {
      capacity = s.rows;
      kind = s.kind;
      trace_high = s.trace_id_high;
      trace_low = s.trace_id_low;
      span_id = s.span_id;
      parent_id = s.parent_id;
      start = s.start_time;
      name = s.name.now;
      trace_state = s.trace_state.now;
      scope_name = s.scope_name.now;
      scope_version = s.scope_version.now;
    }

pub data Call : Type 0 where
  -- an attribute: its list, key, value kind and value
  Set : ℕ → List ℕ → ℕ → List ℕ → Call
  -- an event: its name and time
  Event : List ℕ → ℤ → Call
  -- a link: its trace state, and its ids and flag
  Link : List ℕ → List ℕ → Call
  -- a status: its number and description
  Status : ℕ → List ℕ → Call
  -- another name of the span
  Rename : List ℕ → Call

-- arguments as the code can be handed them: numbers within their widths, and bytes
pub record SizedOpening (o : Opening) : Type 0 where
  pub capacity : o.capacity < 2 ^ 16
  pub kind : o.kind < 256
  pub trace_high : o.trace_high < 2 ^ 64
  pub trace_low : o.trace_low < 2 ^ 64
  pub span_id : o.span_id < 2 ^ 64
  pub parent_id : o.parent_id < 2 ^ 64
  pub start : FitsSigned w64 o.start
  pub name : Bytes o.name
  pub trace_state : Bytes o.trace_state
  pub scope_name : Bytes o.scope_name
  pub scope_version : Bytes o.scope_version

abbrev pub SizedCall : Call → Type 0
SizedCall (Set l k n v) = (l < 256) × (Bytes k × ((n < 256) × Bytes v))
SizedCall (Event t z) = Bytes t × FitsSigned w64 z
SizedCall (Link t v) = Bytes t × Bytes v
SizedCall (Status s d) = (s < 256) × Bytes d
SizedCall (Rename t) = Bytes t

abbrev pub SizedCalls : List Call → Type 0
SizedCalls [] = Unit {0}
SizedCalls (c ∷ cs) = SizedCall c × SizedCalls cs
