use lib.Ieee.{binary64}
use Rattle.values.proofs.Scaled.{of_int-number}
use Rattle.values.proofs.doubles.nearest_pattern.Goals as goal

pub float_to_bits-result : goal.float_to_bits-result
float_to_bits-result c = rw c.nearest_i64_to_f64.ensures (of_int-number binary64 _)
