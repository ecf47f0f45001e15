-- The places of the known keys, by name. `NamedByKey` says that each is the place of its key.
use Rattle.std.specs.Prelude.{◌≡◌, ℕ, Some, codes}
use Rattle.names.specs.Keys.{known}

abbrev pub datadog_service : ℕ
datadog_service = 0

abbrev pub datadog_name : ℕ
datadog_name = 1

abbrev pub datadog_env : ℕ
datadog_env = 2

abbrev pub datadog_resource : ℕ
datadog_resource = 3

abbrev pub datadog_type : ℕ
datadog_type = 4

abbrev pub datadog_version : ℕ
datadog_version = 5

abbrev pub datadog_http_status_code : ℕ
datadog_http_status_code = 6

abbrev pub datadog_span_kind : ℕ
datadog_span_kind = 7

abbrev pub datadog_error : ℕ
datadog_error = 8

abbrev pub datadog_error_msg : ℕ
datadog_error_msg = 9

abbrev pub datadog_error_type : ℕ
datadog_error_type = 10

abbrev pub datadog_error_stack : ℕ
datadog_error_stack = 11

abbrev pub operation_name : ℕ
operation_name = 12

abbrev pub http_request_method : ℕ
http_request_method = 13

abbrev pub http_method : ℕ
http_method = 14

abbrev pub db_system : ℕ
db_system = 15

abbrev pub db_system_name : ℕ
db_system_name = 16

abbrev pub messaging_system : ℕ
messaging_system = 17

abbrev pub messaging_operation : ℕ
messaging_operation = 18

abbrev pub messaging_operation_type : ℕ
messaging_operation_type = 19

abbrev pub rpc_system : ℕ
rpc_system = 20

abbrev pub rpc_service : ℕ
rpc_service = 21

abbrev pub faas_invoked_provider : ℕ
faas_invoked_provider = 22

abbrev pub faas_invoked_name : ℕ
faas_invoked_name = 23

abbrev pub faas_trigger : ℕ
faas_trigger = 24

abbrev pub graphql_operation_type : ℕ
graphql_operation_type = 25

abbrev pub network_protocol_name : ℕ
network_protocol_name = 26

abbrev pub resource_name : ℕ
resource_name = 27

abbrev pub http_route : ℕ
http_route = 28

abbrev pub messaging_destination : ℕ
messaging_destination = 29

abbrev pub messaging_destination_name : ℕ
messaging_destination_name = 30

abbrev pub rpc_method : ℕ
rpc_method = 31

abbrev pub graphql_operation_name : ℕ
graphql_operation_name = 32

abbrev pub db_statement : ℕ
db_statement = 33

abbrev pub db_query_text : ℕ
db_query_text = 34

abbrev pub span_type : ℕ
span_type = 35

abbrev pub http_response_status_code : ℕ
http_response_status_code = 36

abbrev pub http_status_code : ℕ
http_status_code = 37

abbrev pub service_name : ℕ
service_name = 38

abbrev pub service_version : ℕ
service_version = 39

abbrev pub deployment_environment_name : ℕ
deployment_environment_name = 40

abbrev pub deployment_environment : ℕ
deployment_environment = 41

abbrev pub dd_measured : ℕ
dd_measured = 42

abbrev pub NamedByKey : Type 0
NamedByKey =
    (known (codes "datadog.service") ≡ Some datadog_service)
    × (known (codes "datadog.name") ≡ Some datadog_name)
    × (known (codes "datadog.env") ≡ Some datadog_env)
    × (known (codes "datadog.resource") ≡ Some datadog_resource)
    × (known (codes "datadog.type") ≡ Some datadog_type)
    × (known (codes "datadog.version") ≡ Some datadog_version)
    × (known (codes "datadog.http_status_code") ≡ Some datadog_http_status_code)
    × (known (codes "datadog.span.kind") ≡ Some datadog_span_kind)
    × (known (codes "datadog.error") ≡ Some datadog_error)
    × (known (codes "datadog.error.msg") ≡ Some datadog_error_msg)
    × (known (codes "datadog.error.type") ≡ Some datadog_error_type)
    × (known (codes "datadog.error.stack") ≡ Some datadog_error_stack)
    × (known (codes "operation.name") ≡ Some operation_name)
    × (known (codes "http.request.method") ≡ Some http_request_method)
    × (known (codes "http.method") ≡ Some http_method)
    × (known (codes "db.system") ≡ Some db_system)
    × (known (codes "db.system.name") ≡ Some db_system_name)
    × (known (codes "messaging.system") ≡ Some messaging_system)
    × (known (codes "messaging.operation") ≡ Some messaging_operation)
    × (known (codes "messaging.operation.type") ≡ Some messaging_operation_type)
    × (known (codes "rpc.system") ≡ Some rpc_system)
    × (known (codes "rpc.service") ≡ Some rpc_service)
    × (known (codes "faas.invoked_provider") ≡ Some faas_invoked_provider)
    × (known (codes "faas.invoked_name") ≡ Some faas_invoked_name)
    × (known (codes "faas.trigger") ≡ Some faas_trigger)
    × (known (codes "graphql.operation.type") ≡ Some graphql_operation_type)
    × (known (codes "network.protocol.name") ≡ Some network_protocol_name)
    × (known (codes "resource.name") ≡ Some resource_name)
    × (known (codes "http.route") ≡ Some http_route)
    × (known (codes "messaging.destination") ≡ Some messaging_destination)
    × (known (codes "messaging.destination.name") ≡ Some messaging_destination_name)
    × (known (codes "rpc.method") ≡ Some rpc_method)
    × (known (codes "graphql.operation.name") ≡ Some graphql_operation_name)
    × (known (codes "db.statement") ≡ Some db_statement)
    × (known (codes "db.query.text") ≡ Some db_query_text)
    × (known (codes "span.type") ≡ Some span_type)
    × (known (codes "http.response.status_code") ≡ Some http_response_status_code)
    × (known (codes "http.status_code") ≡ Some http_status_code)
    × (known (codes "service.name") ≡ Some service_name)
    × (known (codes "service.version") ≡ Some service_version)
    × (known (codes "deployment.environment.name") ≡ Some deployment_environment_name)
    × (known (codes "deployment.environment") ≡ Some deployment_environment)
    × (known (codes "_dd.measured") ≡ Some dd_measured)
