-- Every text of the span that is made of a lawful block is UTF-8.
use Rattle.std.specs.Prelude.{ℕ, List, All, Some, None, Option, Result, IfOk, IsUtf8}
use Rattle.values.specs.Atoms.{Datum}
use Rattle.blocks.specs.Facts.{facts}
use Rattle.blocks.specs.Lawful.{Readable, Lawful}
use Rattle.readers.specs.Reading.{Reading}
use Rattle.readers.specs.Texts.{span_text, resource_text}
use Rattle.derived.specs.Fields.{service_name, span_type, environment}
use Rattle.derived.specs.OperationName.{operation_name}
use Rattle.derived.specs.ResourceName.{resource_name}
use Rattle.layer.specs.Layers.{Layer}
use Rattle.conversion.specs.declared.dd_span.DdSpan.{DdSpan}
use Rattle.conversion.specs.declared.convert.ConvertRefused.{ConvertRefused}
use Rattle.conversion.specs.Spans.{Text, bytes_of, Link, Event, Span}
use Rattle.conversion.specs.Steps.{steps}
use Rattle.conversion.specs.View.{shown}
use Rattle.conversion.specs.Converts.{Converts}
use Rattle.conversion_law.specs.Told.{read}

abbrev pub Utf8Text : Text → Type 0
Utf8Text t = IsUtf8 (bytes_of t)

abbrev pub Utf8Entry : Text × Text → Type 0
Utf8Entry p = Utf8Text p.0 × Utf8Text p.1

abbrev pub Utf8Value : Option Datum → Type 0
Utf8Value None = Unit {0}
Utf8Value (Some d) = Readable d

pub record Utf8Link (l : Link) : Type 0 where
  pub trace_state : Utf8Text l.trace_state
  pub attributes : All Utf8Entry l.attributes

pub record Utf8Event (e : Event) : Type 0 where
  pub name : Utf8Text e.name
  pub keys : All (λ (p : Text × Option Datum). Utf8Text p.0) e.attributes
  pub values : All (λ (p : Text × Option Datum). Utf8Value p.1) e.attributes

pub record TextsAreUtf8 (s : Span) : Type 0 where
  pub service : Utf8Text s.service
  pub name : Utf8Text s.name
  pub resource : Utf8Text s.resource
  pub type : Utf8Text s.type
  pub meta : All Utf8Entry s.meta
  pub metrics : All (λ (p : Text × ℕ). Utf8Text p.0) s.metrics
  pub links : All Utf8Link s.links
  pub events : All Utf8Event s.events

-- the texts of a reading, and those that are derived from it
pub record ReadingIsUtf8 (r : Reading) : Type 0 where
  pub name : IsUtf8 r.name
  pub on_span : (k : ℕ) → IsUtf8 (span_text r k)
  pub on_resource : (k : ℕ) → IsUtf8 (resource_text r k)

pub record DerivedIsUtf8 (r : Reading) : Type 0 where
  pub service : IsUtf8 (service_name r)
  pub name : IsUtf8 (operation_name r)
  pub resource : IsUtf8 (resource_name r)
  pub type : IsUtf8 (span_type r)
  pub environment : IsUtf8 (environment r)

-- what is read of a lawful block is UTF-8
abbrev pub ReadsUtf8 : Type 0
ReadsUtf8 = (m : List ℕ) → Lawful m → (ls : List Layer) → ReadingIsUtf8 (read ls (facts m))

-- what is derived from UTF-8 is UTF-8
abbrev pub DerivesUtf8 : Type 0
DerivesUtf8 = (r : Reading) → ReadingIsUtf8 r → DerivedIsUtf8 r

-- and so is what the steps make by such a reading
abbrev pub MakesUtf8 : Type 0
MakesUtf8 =
    (m : List ℕ) → Lawful m → (n : ℕ) (r : Reading) → ReadingIsUtf8 r
    → TextsAreUtf8 (steps n (facts m) r)

abbrev pub SpanIsUtf8 : Type 0
SpanIsUtf8 =
    (m : List ℕ) → Lawful m → (n : ℕ) (ls : List Layer)
    → TextsAreUtf8 (steps n (facts m) (read ls (facts m)))

-- an accepted span, in the memory that it was lent
abbrev pub AcceptedIsUtf8 : Type 0
AcceptedIsUtf8 =
    (m : List ℕ) → Lawful m → (r : Reading) → ReadingIsUtf8 r → (n w : ℕ) (result : Result DdSpan ConvertRefused)
    → Converts m r n w result → IfOk result (λ d. TextsAreUtf8 (shown d))
