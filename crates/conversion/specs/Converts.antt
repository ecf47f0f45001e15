-- What the conversion may answer, by all steps.
use Rattle.std.specs.Prelude.{◌≡◌, ℕ, List, Result, MatchResult}
use Rattle.blocks.specs.Facts.{facts}
use Rattle.readers.specs.Reading.{Reading}
use Rattle.conversion.specs.Steps.{steps}
use Rattle.conversion.specs.Answers.{answer, verdict, Tidy, GivenBack}
use Rattle.conversion.specs.declared.dd_span.DdSpan.{DdSpan}
use Rattle.conversion.specs.declared.convert.ConvertRefused.{ConvertRefused}

-- for a block b that is read as r, a table of n rows and an arena of w bytes
pub record Converts (b : List ℕ) (r : Reading) (n w : ℕ) (result : Result DdSpan ConvertRefused) : Type 0 where
  -- refused with the first of 30, 31 and 32 that is so, and else the span that the steps make
  pub answered : verdict result ≡ answer n w (steps n (facts b) r)
  -- zeros and empty rows behind what the span uses; of a refusal the block, n empty rows and w zeros
  pub memory : MatchResult result (λ d. Tidy d.made) (GivenBack b n w)
