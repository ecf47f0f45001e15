-- Examples of what is derived from a reading, proved of the definitions that readers go by.
use Rattle.std.specs.Prelude.{◌≡◌, ℕ, cond, List, [], Some, None, codes, Option, ◌==◌}
use Rattle.blocks.specs.declared.span_kind.SpanKind.{SpanKind}
use Rattle.blocks.specs.declared.span_kind.SpanKind.TheVariants.{Server, Client}
use Rattle.readers.specs.Reading.{Known, Reading}
use Rattle.derived.specs.Fields.{fields}
use Rattle.readers.specs.Places.{db_system, db_system_name, http_request_method, http_method}
use Rattle.layer.specs.Later.{later_edition}

abbrev pub nothing : {X : Type 0} → ℕ → Option X
nothing k = None

-- a text under a key, and what else is said
abbrev pub says : ℕ → List ℕ → (ℕ → Option Known) → ℕ → Option Known
says k t more j = cond (j == k) (Some record { text = t; number = None }) (more j)

abbrev pub reading : List ℕ → SpanKind → (ℕ → Option Known) → Reading
reading n kind said = record { name = n; kind = kind; span = said; resource = nothing }

abbrev pub queried : List ℕ → Reading
queried n = reading n Client (says db_system (codes "PostgreSQL") nothing)

abbrev pub served : List ℕ → Reading
served n = reading n Server (says http_request_method (codes "GET") nothing)

abbrev pub flashed : SpanKind → Reading
flashed kind = reading (codes "flash") kind (says http_request_method [] (says http_method (codes "GET") nothing))

abbrev pub microsoft : List ℕ → Reading
microsoft n = reading n Client (says db_system_name (codes "microsoft.sql_server") nothing)

-- of spans with any name n
pub record ReadExamples : Type 0 where
  pub queried_name : (n : List ℕ) → (fields (queried n)).name ≡ codes "postgresql.query"
  -- the types go by the exact name
  pub queried_type : (n : List ℕ) → (fields (queried n)).type ≡ codes "db"
  pub served_name : (n : List ℕ) → (fields (served n)).name ≡ codes "http.server.request"
  pub served_resource : (n : List ℕ) → (fields (served n)).resource ≡ codes "GET"
  pub served_type : (n : List ℕ) → (fields (served n)).type ≡ codes "web"
  -- an empty text on the span ends the walk over the keys
  pub flashed_resource : (kind : SpanKind) → (fields (flashed kind)).resource ≡ codes "flash"
  pub microsoft_type : (n : List ℕ) → (fields (microsoft n)).type ≡ codes "db"
  pub microsoft_later_type : (n : List ℕ) → (fields (later_edition (microsoft n))).type ≡ codes "sql"
  pub microsoft_later_name : (n : List ℕ) → (fields (later_edition (microsoft n))).name ≡ codes "mssql.query"
