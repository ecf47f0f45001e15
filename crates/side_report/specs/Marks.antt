-- The mark at the head of a row.
use Rattle.std.specs.Prelude.{ℕ, Bool, true, false}
use Rattle.conversion_sides.specs.declared.standing.Standing.{Standing}
use Rattle.conversion_sides.specs.declared.standing.Standing.TheVariants.{Same, Differs, OnlyLeft, OnlyRight}
use Rattle.side_report.specs.declared.mark.Mark.{Mark}
use Rattle.side_report.specs.declared.mark.Mark.TheVariants.{Same as MarkSame, Differs as MarkDiffers, OnlyLeft as MarkLeft, OnlyRight as MarkRight, LeftOut as MarkLeftOut}

-- of a row that stands so, under one of the ten names or not
abbrev pub mark_of : Standing → Bool → Mark
mark_of Same out = MarkSame
mark_of Differs true = MarkLeftOut
mark_of Differs false = MarkDiffers
mark_of OnlyLeft true = MarkLeftOut
mark_of OnlyLeft false = MarkLeft
mark_of OnlyRight true = MarkLeftOut
mark_of OnlyRight false = MarkRight

-- a space, `!`, `<`, `>` and `~`
abbrev pub mark_char : Mark → ℕ
mark_char MarkSame = 32
mark_char MarkDiffers = 33
mark_char MarkLeft = 60
mark_char MarkRight = 62
mark_char MarkLeftOut = 126
