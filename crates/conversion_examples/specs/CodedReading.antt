-- The reading of a reader that has a status code of HTTP and an environment, and nothing else.
use Rattle.std.specs.Prelude.{cond, [], pos, Some, None, codes, ◌==◌}
use Rattle.lent_bytes.specs.Memory.{clip}
use Rattle.blocks.specs.declared.span_kind.SpanKind.TheVariants.{Internal}
use Rattle.readers.specs.Reading.{Reading}
use Rattle.readers.specs.Places.{http_response_status_code, deployment_environment_name}

abbrev pub coded : Reading
coded =
    record {
      name = clip 4096 [];
      kind = Internal;
      span = λ k. cond (k == http_response_status_code) (Some record { text = clip 4096 (codes "404"); number = Some (pos 404) }) None;
      resource = λ k. cond (k == deployment_environment_name) (Some (clip 4096 (codes "workshop"))) None;
    }
