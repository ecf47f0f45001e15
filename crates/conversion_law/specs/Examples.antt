-- Examples, proved of the definitions: all worked examples of conversions, of values and of drafts stand here.
use Rattle.std.specs.Prelude.{◌≡◌, ℕ, List, [], ◌∷◌, pos, Some, codes}
use Rattle.values.specs.declared.kinds.ScalarKind.TheVariants.{String}
use Rattle.values.specs.Atoms.{Datum, whole, words, single, several}
use Rattle.values.specs.Kinds.{kind_number}
use Rattle.values.specs.Format.{datum_kind, value_of}
use Rattle.values.specs.Encoding.{encoding}
use Rattle.values.specs.Shown.{display, string_repr, metric_of}
use Rattle.blocks.specs.declared.span_kind.SpanKind.{SpanKind}
use Rattle.blocks.specs.declared.span_kind.SpanKind.TheVariants.{Internal, Server, Client}
use Rattle.blocks.specs.declared.span_kind.StatusCode.{StatusCode}
use Rattle.blocks.specs.declared.span_kind.StatusCode.TheVariants.{Unset, Ok}
use Rattle.blocks.specs.Facts.{RowFact, Facts}
use Rattle.draft_law.specs.Law.{ErrorOkErrorIsOk}
use Rattle.layer.specs.Later.{later_edition}
use Rattle.span_args.specs.ReadingOf.{reading_of}
use Rattle.conversion.specs.Spans.{bytes_of, Span}
use Rattle.conversion.specs.Steps.{steps}
use Rattle.conversion_law.specs.StepsAgree.{SaidAlike}

-- an attribute of the span, and one that is a text
abbrev pub says : List ℕ → Datum → RowFact
says k d = record { list = 0; key = k; kind = kind_number (datum_kind d); value = encoding d; time = pos 0 }

abbrev pub says_text : List ℕ → List ℕ → RowFact
says_text k t = says k (single (words t))

-- a span with a name and attributes, and nothing else
abbrev pub with : List ℕ → SpanKind → StatusCode → List RowFact → Facts
with name kind status rows =
    record {
      trace_high = 0;
      trace_low = 0;
      span_id = 0;
      parent_id = 0;
      start = pos 0;
      finish = pos 0;
      kind = kind;
      status = status;
      name = name;
      trace_state = [];
      scope_name = [];
      scope_version = [];
      description = [];
      rows = rows;
    }

-- converted bare, and under the later edition
abbrev pub converted : Facts → Span
converted f = steps 398 f (reading_of f)

abbrev pub converted_later : Facts → Span
converted_later f = steps 398 f (later_edition (reading_of f))

abbrev pub queried : Facts
queried = with [] Client Unset (says_text (codes "db.system") (codes "PostgreSQL") ∷ [])

abbrev pub served : Facts
served = with [] Server Unset (says_text (codes "http.request.method") (codes "GET") ∷ [])

abbrev pub flashed : Facts
flashed = with (codes "flash") Internal Unset (says_text (codes "http.request.method") [] ∷ says_text (codes "http.method") (codes "GET") ∷ [])

abbrev pub five : RowFact
five = says (codes "datadog.error") (single (whole (pos 5)))

abbrev pub three_texts : List RowFact
three_texts =
    says_text (codes "datadog.error.msg") (codes "m") ∷
    says_text (codes "datadog.error.type") (codes "t") ∷
    says_text (codes "datadog.error.stack") (codes "s") ∷
    []

abbrev pub microsoft : Facts
microsoft = with [] Client Unset (says_text (codes "db.system.name") (codes "microsoft.sql_server") ∷ [])

abbrev pub a_and_b : Datum
a_and_b = several String (words (codes "a") ∷ words (codes "b") ∷ [])

pub record WorkedExamples : Type 0 where
  -- a client of PostgreSQL: the name goes by its lower case, the type by its exact name
  pub queried_name : bytes_of (converted queried).name ≡ codes "postgresql.query"
  pub queried_type : bytes_of (converted queried).type ≡ codes "db"
  -- a server that was asked GET
  pub served_name : bytes_of (converted served).name ≡ codes "http.server.request"
  pub served_resource : bytes_of (converted served).resource ≡ codes "GET"
  pub served_type : bytes_of (converted served).type ≡ codes "web"
  -- an empty method under the later name ends the walk over the two names
  pub flashed_resource : bytes_of (converted flashed).resource ≡ codes "flash"
  -- datadog.error 5 on a span that is Ok: 0 with no texts of an error, and 5 with the three
  pub no_texts : (converted (with [] Internal Ok (five ∷ []))).error ≡ pos 0
  pub all_texts : (converted (with [] Internal Ok (five ∷ three_texts))).error ≡ pos 5
  -- 2 ^ 53 + 1 is no double: the metric is that of 2 ^ 53
  pub metric : metric_of (single (whole (pos 9007199254740993))) ≡ Some 0x4340_0000_0000_0000
  -- an array of a and b: its bytes, and its text on a span
  pub array : value_of 7 (1 ∷ 0 ∷ 97 ∷ 1 ∷ 0 ∷ 98 ∷ []) ≡ Some a_and_b
  pub array_shown : display a_and_b ≡ codes "[\"a\",\"b\"]"
  pub array_read : string_repr a_and_b ≡ codes "[\"a\",\"b\"]"
  -- a client of a database that the later edition renames
  pub microsoft_type : bytes_of (converted microsoft).type ≡ codes "db"
  pub microsoft_later_type : bytes_of (converted_later microsoft).type ≡ codes "sql"
  pub microsoft_later_name : bytes_of (converted_later microsoft).name ≡ codes "mssql.query"
  pub error_ok_error : ErrorOkErrorIsOk

-- Facts that differ and meet what the law of conversions asks: the same request, its method under the older name and under the
-- later, and its attributes in another order.
abbrev pub older : Facts
older = with [] Client Unset (says_text (codes "http.method") (codes "GET") ∷ says_text (codes "color") (codes "red") ∷ [])

abbrev pub later : Facts
later = with [] Client Unset (says_text (codes "color") (codes "red") ∷ says_text (codes "http.request.method") (codes "GET") ∷ [])

abbrev pub PremisesMet : Type 0
PremisesMet = SaidAlike older later
