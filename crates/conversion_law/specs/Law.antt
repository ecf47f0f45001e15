-- The law of conversions: of all that the conversion may answer for the block of a draft, under every pile of layers.
use Rattle.std.specs.Prelude.{◌≡◌, ℕ, List, [], Result, IfOk}
use Rattle.blocks.specs.Facts.{Facts, facts}
use Rattle.readers.specs.Reading.{Reading}
use Rattle.layer.specs.Layers.{Layer}
use Rattle.reader_laws.specs.Alike.{Alike, renamings, NoneDoubly}
use Rattle.conversion.specs.declared.dd_span.DdSpan.{DdSpan}
use Rattle.conversion.specs.declared.convert.ConvertRefused.{ConvertRefused}
use Rattle.conversion.specs.Steps.{steps}
use Rattle.conversion.specs.View.{shown}
use Rattle.conversion.specs.Converts.{Converts}
use Rattle.conversion_law.specs.SameFacts.{SameInAnyOrder}
use Rattle.conversion_law.specs.Landing.{LandsApart}
use Rattle.conversion_law.specs.Agreement.{SameTexts, AgreeClosely, AgreeWholly}
use Rattle.conversion_law.specs.SameDerived.{SameDerived}
use Rattle.conversion_law.specs.LaterDiffers.{SameButThree}
use Rattle.conversion_law.specs.StepsAgree.{SaidAlike}
use Rattle.conversion_law.specs.Told.{Told, block_of, held_by, read}

-- what may be answered for the draft that was told t, in a table of n rows and an arena of w bytes
abbrev pub Answers : Told → List Layer → ℕ → ℕ → Result DdSpan ConvertRefused → Type 0
Answers t ls n w result = Converts (block_of t) (read ls (facts (block_of t))) n w result

-- an accepted span is what the steps make of what the draft holds
abbrev pub ConvertsWhatIsHeld : Type 0
ConvertsWhatIsHeld =
    (t : Told) (ls : List Layer) (n w : ℕ) (result : Result DdSpan ConvertRefused) → Answers t ls n w result
    → IfOk result (λ d. shown d ≡ steps n (held_by t) (read ls (held_by t)))

-- of drafts that hold the same the accepted spans agree, whatever memory each was lent
abbrev pub ConvertsTheSameAlike : Type 0
ConvertsTheSameAlike =
    (s t : Told) → SaidAlike (held_by s) (held_by t) → (ls : List Layer) (n k w v : ℕ) (p q : Result DdSpan ConvertRefused)
    → Answers s ls n w p → Answers t ls k v q → IfOk p (λ d. IfOk q (λ e. AgreeClosely (shown d) (shown e)))

-- where the order of attributes alone differs they agree with no name left out, and pairs may be used doubly
abbrev pub ConvertsInAnyOrder : Type 0
ConvertsInAnyOrder =
    (s t : Told) → SameInAnyOrder (held_by s) (held_by t) → LandsApart (held_by s) → LandsApart (held_by t)
    → (ls : List Layer) (n k w v : ℕ) (p q : Result DdSpan ConvertRefused)
    → Answers s ls n w p → Answers t ls k v q → IfOk p (λ d. IfOk q (λ e. AgreeWholly (shown d) (shown e)))

-- of one draft the accepted span under a pile of layers is the accepted one made bare, but for three fields and the arena
abbrev pub LaterEditionDiffers : Type 0
LaterEditionDiffers =
    (t : Told) (ls : List Layer) (n k w v : ℕ) (p q : Result DdSpan ConvertRefused)
    → Answers t ls n w p → Answers t [] k v q → IfOk p (λ d. IfOk q (λ e. SameButThree (shown d) (shown e)))

-- of readings that say the same all that the steps take is equal, and so are the four texts of every span that they make by it
pub record TakenAlike (a b : Reading) : Type 0 where
  pub derived : SameDerived a b
  pub texts : (n k : ℕ) (f g : Facts) → SameTexts (steps n f a) (steps k g b)

abbrev pub ReadsAlike : Reading → Reading → Type 0
ReadsAlike a b = Alike a b → NoneDoubly a renamings → NoneDoubly b renamings → TakenAlike a b
