-- What is derived from a reading computes.
use Rattle.std.proofs.Common.{refl}
use Rattle.conversion_law.specs.ReadExamples.{ReadExamples}

pub read_examples : ReadExamples
read_examples =
    record {
      queried_name = λ n. refl;
      queried_type = λ n. refl;
      served_name = λ n. refl;
      served_resource = λ n. refl;
      served_type = λ n. refl;
      flashed_resource = λ kind. refl;
      microsoft_type = λ n. refl;
      microsoft_later_type = λ n. refl;
      microsoft_later_name = λ n. refl;
    }
