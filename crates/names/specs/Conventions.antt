-- The spellings of the conventions and of the database systems.
use Rattle.std.specs.Prelude.{ℕ, List, [], ◌∷◌, codes}

abbrev pub convention_names : List (List ℕ)
convention_names =
    codes "client.address" ∷
    codes "http.response.body.size" ∷
    codes "http.response.status_code" ∷
    codes "http.request.body.size" ∷
    codes "http.request.method" ∷
    codes "http.route" ∷
    codes "network.protocol.version" ∷
    codes "server.address" ∷
    codes "url.full" ∷
    codes "user_agent.original" ∷
    codes "service.name" ∷
    codes "service.version" ∷
    codes "otel.scope.name" ∷
    codes "otel.scope.version" ∷
    codes "otel.status_code" ∷
    codes "otel.status_description" ∷
    codes "exception.message" ∷
    codes "exception.type" ∷
    codes "exception.stacktrace" ∷
    []

-- the name under which a span says how often events are extracted from it
abbrev pub sampling_rate_name : List ℕ
sampling_rate_name = codes "_dd1.sr.eausr"

abbrev pub database_names : List (List ℕ)
database_names =
    codes "other_sql" ∷
    codes "mssql" ∷
    codes "mssqlcompact" ∷
    codes "mysql" ∷
    codes "oracle" ∷
    codes "db2" ∷
    codes "postgresql" ∷
    codes "redshift" ∷
    codes "hive" ∷
    codes "cloudscape" ∷
    codes "hsqldb" ∷
    codes "progress" ∷
    codes "maxdb" ∷
    codes "hanadb" ∷
    codes "ingres" ∷
    codes "firstsql" ∷
    codes "edb" ∷
    codes "cache" ∷
    codes "adabas" ∷
    codes "firebird" ∷
    codes "derby" ∷
    codes "filemaker" ∷
    codes "informix" ∷
    codes "instantdb" ∷
    codes "interbase" ∷
    codes "mariadb" ∷
    codes "netezza" ∷
    codes "pervasive" ∷
    codes "pointbase" ∷
    codes "sqlite" ∷
    codes "sybase" ∷
    codes "teradata" ∷
    codes "vertica" ∷
    codes "h2" ∷
    codes "coldfusion" ∷
    codes "cassandra" ∷
    codes "hbase" ∷
    codes "mongodb" ∷
    codes "redis" ∷
    codes "couchbase" ∷
    codes "couchdb" ∷
    codes "cosmosdb" ∷
    codes "dynamodb" ∷
    codes "neo4j" ∷
    codes "geode" ∷
    codes "elasticsearch" ∷
    codes "memcached" ∷
    codes "cockroachdb" ∷
    codes "opensearch" ∷
    codes "clickhouse" ∷
    codes "spanner" ∷
    codes "trino" ∷
    []
