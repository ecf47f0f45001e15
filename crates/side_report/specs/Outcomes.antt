-- What becomes of a comparison.
use Rattle.std.specs.Prelude.{◌≡◌, ℕ, Bool, cond}
use Rattle.conversion.specs.Spans.{Span}
use Rattle.conversion_sides.specs.Compared.{agrees, compared}
use Rattle.side_report.specs.declared.outcome.Outcome.{Outcome}
use Rattle.side_report.specs.declared.outcome.Outcome.TheVariants.{Agree, Differ, NotCompared}

abbrev pub outcome_of : Bool → Outcome
outcome_of agrees = cond agrees Agree Differ

-- the exit status
abbrev pub status_of : Outcome → ℕ
status_of Agree = 0
status_of Differ = 1
status_of NotCompared = 2

-- what was not compared is worst, and spans that agree are best
abbrev pub worse_of : Outcome → Outcome → Outcome
worse_of Agree other = other
worse_of Differ Agree = Differ
worse_of Differ Differ = Differ
worse_of Differ NotCompared = NotCompared
worse_of NotCompared other = NotCompared

-- of two spans, by the counts of what differs
abbrev pub TellsOf : Span → Span → Outcome → Type 0
TellsOf s t outcome = outcome ≡ outcome_of (agrees (compared s t))
