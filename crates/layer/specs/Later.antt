-- A later edition of the conventions: databases have other names in it.
use Rattle.std.specs.Prelude.{ℕ, Bool, cond, ◌||◌, List, [], ◌∷◌, codes, ◌==◌}
use Rattle.std.specs.Option.{option_map}
use Rattle.readers.specs.Reading.{Known, Reading}
use Rattle.readers.specs.Tables.{Pair, to, entry_for}
use Rattle.readers.specs.Texts.{or_absent}
use Rattle.readers.specs.Places.{db_system, db_system_name}

-- the later name of a database system, and the name that it is read as
abbrev pub later_names : List Pair
later_names =
    to (codes "actian.ingres") (codes "ingres") ∷
    to (codes "aws.dynamodb") (codes "dynamodb") ∷
    to (codes "aws.redshift") (codes "redshift") ∷
    to (codes "azure.cosmosdb") (codes "cosmosdb") ∷
    to (codes "firebirdsql") (codes "firebird") ∷
    to (codes "h2database") (codes "h2") ∷
    to (codes "ibm.db2") (codes "db2") ∷
    to (codes "ibm.informix") (codes "informix") ∷
    to (codes "ibm.netezza") (codes "netezza") ∷
    to (codes "intersystems.cache") (codes "cache") ∷
    to (codes "microsoft.sql_server") (codes "mssql") ∷
    to (codes "oracle.db") (codes "oracle") ∷
    to (codes "sap.hana") (codes "hanadb") ∷
    to (codes "sap.maxdb") (codes "maxdb") ∷
    to (codes "softwareag.adabas") (codes "adabas") ∷
    []

abbrev pub earlier_text : List ℕ → List ℕ
earlier_text t = or_absent (entry_for t later_names) t

abbrev pub earlier_known : Known → Known
earlier_known k = record { text = earlier_text k.text; number = k.number }

abbrev pub is_database_key : ℕ → Bool
is_database_key k = k == db_system || k == db_system_name

-- what a text under a key is read as
abbrev pub earlier_under : ℕ → List ℕ → List ℕ
earlier_under k t = cond (is_database_key k) (earlier_text t) t

-- the texts under the two keys of database systems go by the table, and all else is as below
abbrev pub later_edition : Reading → Reading
later_edition r =
    record {
      name = r.name;
      kind = r.kind;
      span = λ k. cond (is_database_key k) (option_map earlier_known (r.span k)) (r.span k);
      resource = λ k. cond (is_database_key k) (option_map earlier_text (r.resource k)) (r.resource k);
    }
