-- The worked examples, by computation.
use Rattle.std.proofs.Common.{◌≡◌, ℕ, false, List, IsUtf8, refl}
use lib.Ieee.{of_bits}
use lib.Utf8.{encode}
use Rattle.std.specs.Str.{chars}
use Rattle.std.proofs.lemmas.Bool.{both_ways}
use Rattle.values.specs.Unicode.{is_text}
use Rattle.values.specs.Laws.{WorkedExamples}
use Rattle.values.proofs.Decided.{is_text_decides}

no_text : (b : List ℕ) → is_text b ≡ false → IsUtf8 b → ⊥
no_text b n u = both_ways (is_text b) n ((is_text_decides b).1 u)

pub worked_examples_lem : WorkedExamples
unfolding encode chars is_text of_bits
worked_examples_lem =
    record {
      not_identical_to_alpha = (refl, refl);
      hangugeo = (refl, refl);
      nihongo = (refl, refl);
      stump_of_tree = (refl, refl);
      last_code_point = (refl, refl);
      overlong_nul = no_text _ refl;
      overlong_dots = no_text _ refl;
      surrogate = no_text _ refl;
      surrogate_pair = no_text _ refl;
      past_the_last = no_text _ refl;
      cut_short = no_text _ refl;
      lone_continuation = no_text _ refl;
      zero = refl;
      minus_zero = refl;
      one = refl;
      half = refl;
      two_to_53 = refl;
      least = refl;
      two_to_63 = refl;
      infinity = refl;
      minus_infinity = refl;
      not_a_number = refl;
    }
