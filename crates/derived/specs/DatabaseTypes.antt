-- Which type of span the name of a database system stands for.
use Rattle.std.specs.Prelude.{ℕ, List, [], ◌∷◌, codes}
use Rattle.readers.specs.Tables.{Pair, to, entry_for}
use Rattle.readers.specs.Texts.{or_absent}

abbrev pub database_types : List Pair
database_types =
    to (codes "other_sql") (codes "sql") ∷
    to (codes "mssql") (codes "sql") ∷
    to (codes "mysql") (codes "sql") ∷
    to (codes "oracle") (codes "sql") ∷
    to (codes "db2") (codes "sql") ∷
    to (codes "postgresql") (codes "sql") ∷
    to (codes "redshift") (codes "sql") ∷
    to (codes "cloudscape") (codes "sql") ∷
    to (codes "hsqldb") (codes "sql") ∷
    to (codes "maxdb") (codes "sql") ∷
    to (codes "ingres") (codes "sql") ∷
    to (codes "firstsql") (codes "sql") ∷
    to (codes "edb") (codes "sql") ∷
    to (codes "cache") (codes "sql") ∷
    to (codes "firebird") (codes "sql") ∷
    to (codes "derby") (codes "sql") ∷
    to (codes "informix") (codes "sql") ∷
    to (codes "mariadb") (codes "sql") ∷
    to (codes "sqlite") (codes "sql") ∷
    to (codes "sybase") (codes "sql") ∷
    to (codes "teradata") (codes "sql") ∷
    to (codes "vertica") (codes "sql") ∷
    to (codes "h2") (codes "sql") ∷
    to (codes "coldfusion") (codes "sql") ∷
    to (codes "cockroachdb") (codes "sql") ∷
    to (codes "progress") (codes "sql") ∷
    to (codes "hanadb") (codes "sql") ∷
    to (codes "adabas") (codes "sql") ∷
    to (codes "filemaker") (codes "sql") ∷
    to (codes "instantdb") (codes "sql") ∷
    to (codes "interbase") (codes "sql") ∷
    to (codes "netezza") (codes "sql") ∷
    to (codes "pervasive") (codes "sql") ∷
    to (codes "pointbase") (codes "sql") ∷
    to (codes "clickhouse") (codes "sql") ∷
    to (codes "cassandra") (codes "cassandra") ∷
    to (codes "redis") (codes "redis") ∷
    to (codes "memcached") (codes "memcached") ∷
    to (codes "mongodb") (codes "mongodb") ∷
    to (codes "elasticsearch") (codes "elasticsearch") ∷
    to (codes "opensearch") (codes "opensearch") ∷
    to (codes "hive") (codes "db") ∷
    to (codes "hbase") (codes "db") ∷
    to (codes "neo4j") (codes "db") ∷
    to (codes "couchbase") (codes "db") ∷
    to (codes "couchdb") (codes "db") ∷
    to (codes "cosmosdb") (codes "db") ∷
    to (codes "dynamodb") (codes "db") ∷
    to (codes "geode") (codes "db") ∷
    []

-- a database by any other name has no type of its own
abbrev pub database_type : List ℕ → List ℕ
database_type t = or_absent (entry_for t database_types) (codes "db")
