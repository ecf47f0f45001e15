use Rattle.std.proofs.Common.{◌≡◌, [], drop, vec_items}
use Rattle.notation.specs.declared.quoted.Place.TheVariants.{Plain}
use Rattle.notation.specs.Strings.{string_from}
use Rattle.notation.proofs.quoted.Quoted.behind_quote.Given as goal

-- reading on from here comes to what reading from the start does
abbrev pub invariant-loop-i : goal.invariant-loop-i
invariant-loop-i l = string_from l.place (vec_items l.bytes) (drop l.i l.text) ≡ string_from Plain [] l.text
