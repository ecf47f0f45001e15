-- What a question is refused with, and what a row in its answer means.
use Rattle.std.specs.Prelude.{ℕ, Option, Result}
use Rattle.std.specs.Option.{option_map}
use Rattle.std.specs.Result.{result_ok}
use Rattle.blocks.specs.declared.questions.QuestionFault.{QuestionFault}
use Rattle.blocks.specs.declared.questions.QuestionFault.TheVariants.{NoSuchItem}
use Rattle.blocks.specs.declared.row.Row.{Row as CodeRow}
use Rattle.blocks.specs.Facts.{RowFact, fact_of}

abbrev pub question_number : QuestionFault → ℕ
question_number NoSuchItem = 40

-- the row that is answered; none is "no such item", the one refusal that there is
abbrev pub answered_row : Result CodeRow QuestionFault → Option RowFact
answered_row r = option_map fact_of (result_ok r)
