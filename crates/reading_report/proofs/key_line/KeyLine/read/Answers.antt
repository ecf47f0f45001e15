use Rattle.reading_report.proofs.Sides.{side-read}
use Rattle.reading_report.proofs.key_line.KeyLine.read.Goals as goal

pub returns-clause-span : goal.returns-clause-span
returns-clause-span g c = side-read _ 4096 _ _ _ c.front-span.ensures c.get_attr_str_opt-on_span_len.ensures.text c.get_attr_str_opt-on_span_len.ensures.size

pub returns-clause-resource : goal.returns-clause-resource
returns-clause-resource g c = side-read _ 4096 _ _ _ c.front-resource.ensures c.get_res_attribute_opt-on_resource_len.ensures.text c.get_res_attribute_opt-on_resource_len.ensures.size
