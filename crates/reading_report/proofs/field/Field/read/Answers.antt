use Rattle.std.proofs.Common.{refl}
use Rattle.reading_report.proofs.Sides.{field-read}
use Rattle.reading_report.proofs.field.Field.read.Goals as goal

pub returns-in-Name : goal.returns-in-Name
returns-in-Name g c = field-read 8200 _ _ _ _ _ _ _ c.part.ensures c.datadog_name-len.ensures.len c.datadog_name-len.ensures.text refl c.in-Name.is

pub returns-in-Resource : goal.returns-in-Resource
returns-in-Resource g c = field-read 8200 _ _ _ _ _ _ _ c.part-in-Resource.ensures c.datadog_resource-len.ensures.len c.datadog_resource-len.ensures.text refl c.in-Resource.is

pub returns-in-SpanType : goal.returns-in-SpanType
returns-in-SpanType g c = field-read 4096 _ _ _ _ _ _ _ c.part-in-SpanType.ensures c.datadog_type-len.ensures.len c.datadog_type-len.ensures.text refl c.in-SpanType.is

pub returns-in-Service : goal.returns-in-Service
returns-in-Service g c = field-read 4096 _ _ _ _ _ _ _ c.part-in-Service.ensures c.datadog_service-len.ensures.len c.datadog_service-len.ensures.text refl c.in-Service.is

pub returns-in-Environment : goal.returns-in-Environment
returns-in-Environment g c = field-read 4096 _ _ _ _ _ _ _ c.part-in-Environment.ensures c.datadog_env-len.ensures.len c.datadog_env-len.ensures.text refl c.in-Environment.is
