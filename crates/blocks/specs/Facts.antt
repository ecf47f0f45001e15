-- The facts of a block: what its header and its rows say. They are defined on any bytes.
use Rattle.std.specs.Prelude.{ℕ, zero, suc, cond, List, [], ◌∷◌, ℤ, ◌==◌}
use Rattle.lent_bytes.specs.Fields.{i64_in, id_in}
use Rattle.blocks.specs.declared.span_kind.SpanKind.{SpanKind}
use Rattle.blocks.specs.declared.span_kind.SpanKind.TheVariants.{Internal, Server, Client, Producer, Consumer}
use Rattle.blocks.specs.declared.span_kind.StatusCode.{StatusCode}
use Rattle.blocks.specs.declared.span_kind.StatusCode.TheVariants.{Unset, Ok, Error}
use Rattle.blocks.specs.declared.row.Row.{Row as CodeRow}
use Rattle.blocks.specs.Layout.{rows_in, kind_in, status_in, text_in, place_in, length_in, row_place, Row, row_at}

-- kinds are numbered 1 to 5, and statuses 0 to 2; on bytes that open refuses, another number is the first
abbrev pub span_kind_number : SpanKind → ℕ
span_kind_number Internal = 1
span_kind_number Server = 2
span_kind_number Client = 3
span_kind_number Producer = 4
span_kind_number Consumer = 5

abbrev pub span_kind_of : ℕ → SpanKind
span_kind_of n = cond (n == 2) Server (cond (n == 3) Client (cond (n == 4) Producer (cond (n == 5) Consumer Internal)))

abbrev pub status_number : StatusCode → ℕ
status_number Unset = 0
status_number Ok = 1
status_number Error = 2

abbrev pub status_of : ℕ → StatusCode
status_of n = cond (n == 1) Ok (cond (n == 2) Error Unset)

-- a header text, by where its place and length stand
abbrev pub header_text : List ℕ → ℕ → List ℕ
header_text m at = text_in m (place_in m at) (length_in m at)

-- a row: its list, key, value kind, value and time
pub record RowFact : Type 0 where
  pub list : ℕ
  pub key : List ℕ
  pub kind : ℕ
  pub value : List ℕ
  pub time : ℤ

abbrev pub fact_at : List ℕ → Row → RowFact
fact_at m r =
    record {
      list = r.list;
      key = text_in m r.key_place r.key_length;
      kind = r.kind;
      value = text_in m r.value_place r.value_length;
      time = r.time;
    }

abbrev pub row_fact : List ℕ → ℕ → RowFact
row_fact m i = fact_at m (row_at m (row_place i))

-- n rows from the i-th on
unfoldable pub facts_from : List ℕ → ℕ → ℕ → List RowFact
facts_from m i zero = []
facts_from m i (suc n) = row_fact m i ∷ facts_from m (suc i) n

-- the rows in order
abbrev pub row_facts : List ℕ → List RowFact
row_facts m = facts_from m 0 (rows_in m)

pub record Facts : Type 0 where
  pub trace_high : ℕ
  pub trace_low : ℕ
  pub span_id : ℕ
  pub parent_id : ℕ
  pub start : ℤ
  pub finish : ℤ
  pub kind : SpanKind
  pub status : StatusCode
  pub name : List ℕ
  pub trace_state : List ℕ
  pub scope_name : List ℕ
  pub scope_version : List ℕ
  pub description : List ℕ
  pub rows : List RowFact

abbrev pub facts : List ℕ → Facts
facts m =
    record {
      trace_high = id_in m 16;
      trace_low = id_in m 24;
      span_id = id_in m 32;
      parent_id = id_in m 40;
      start = i64_in m 48;
      finish = i64_in m 56;
      kind = span_kind_of (kind_in m);
      status = status_of (status_in m);
      name = header_text m 80;
      trace_state = header_text m 88;
      scope_name = header_text m 96;
      scope_version = header_text m 104;
      description = header_text m 112;
      rows = facts_from m 0 (rows_in m);
    }

-- what the code's row means
abbrev pub fact_of : CodeRow → RowFact
fact_of r = record { list = r.list; key = r.key.now; kind = r.kind; value = r.value.now; time = r.time }
