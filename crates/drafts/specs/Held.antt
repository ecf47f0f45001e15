-- The facts that a draft holds: they follow from what was said to it and from which calls were refused. Nothing here knows of
-- memory.
use Rattle.std.specs.Prelude.{ℕ, ◌+◌, Bool, true, false, cond, ◌&&◌, ◌||◌, List, [], ◌∷◌, ◌++◌, map, ℤ, pos, ◌==◌}
use Rattle.std.specs.Str.{bytes_eq}
use Rattle.keyed.specs.Keyed.{settled}
use Rattle.blocks.specs.Facts.{Facts, RowFact, span_kind_of, status_of}
use Rattle.blocks.specs.declared.span_kind.StatusCode.{StatusCode}
use Rattle.blocks.specs.declared.span_kind.StatusCode.TheVariants.{Unset, Ok, Error}
use Rattle.drafts.specs.Calls.{Opening, Call, Set, Event, Link, Status, Rename}
use Rattle.drafts.specs.Refused.{Answer, accepted}

-- what a row is about: its list, its key, and the event or link that it belongs to
pub record Id : Type 0 where
  pub list : ℕ
  pub key : List ℕ
  pub owner : ℕ

abbrev pub same_id : Id → Id → Bool
same_id a b = a.list == b.list && (bytes_eq a.key b.key && a.owner == b.owner)

-- x for events and their attributes, y for links and theirs, z for the rest
abbrev pub owning : {X : Type 0} → ℕ → X → X → X → X
owning l x y z = cond (l == 3 || l == 4) x (cond (l == 5 || l == 6) y z)

-- the owner is the number e of events so far, or f of links so far, and 0 for what belongs to the span
abbrev pub id_of : ℕ → List ℕ → ℕ → ℕ → Id
id_of l k e f = record { list = l; key = k; owner = owning l e f 0 }

-- what is said of it
pub record Content : Type 0 where
  pub kind : ℕ
  pub value : List ℕ
  pub time : ℤ

abbrev pub row_of : Id → Content → RowFact
row_of i c = record { list = i.list; key = i.key; kind = c.kind; value = c.value; time = c.time }

abbrev pub attribute_content : ℕ → List ℕ → Content
attribute_content n v = record { kind = n; value = v; time = pos 0 }

abbrev pub event_content : ℤ → Content
event_content z = record { kind = 0; value = []; time = z }

abbrev pub link_content : List ℕ → Content
link_content v = record { kind = 0; value = v; time = pos 0 }

-- what an accepted call says of a row, after e events and f links
abbrev pub inserted : Bool → ℕ → ℕ → Call → List (Id × Content)
inserted true e f (Set l k n v) = (id_of l k e f, attribute_content n v) ∷ []
inserted true e f (Event t z) = (id_of 3 t e f, event_content z) ∷ []
inserted true e f (Link t v) = (id_of 5 t e f, link_content v) ∷ []
inserted true e f (Status s d) = []
inserted true e f (Rename t) = []
inserted false e f c = []

-- how many events, and how many links, an accepted call adds
abbrev pub events_by : Bool → Call → ℕ
events_by true (Set l k n v) = 0
events_by true (Event t z) = 1
events_by true (Link t v) = 0
events_by true (Status s d) = 0
events_by true (Rename t) = 0
events_by false c = 0

abbrev pub links_by : Bool → Call → ℕ
links_by true (Set l k n v) = 0
links_by true (Event t z) = 0
links_by true (Link t v) = 1
links_by true (Status s d) = 0
links_by true (Rename t) = 0
links_by false c = 0

-- what all calls say of rows, given their answers
abbrev pub made : ℕ → ℕ → List Call → List Answer → List (Id × Content)
made e f [] ns = []
made e f (c ∷ cs) [] = []
made e f (c ∷ cs) (a ∷ ns) = inserted (accepted a) e f c ++ made (e + events_by (accepted a) c) (f + links_by (accepted a) c) cs ns

-- a part of the facts that goes by one call after another; g is what one call does to it
abbrev pub passed : {X : Type 0} → (Bool → Call → X → X) → X → List Call → List Answer → X
passed g x [] ns = x
passed g x (c ∷ cs) [] = x
passed g x (c ∷ cs) (a ∷ ns) = passed g (g (accepted a) c x) cs ns

-- the name is that of the last accepted rename
abbrev pub named : Bool → Call → List ℕ → List ℕ
named true (Set l k n v) t = t
named true (Event x z) t = t
named true (Link x v) t = t
named true (Status s d) t = t
named true (Rename x) t = x
named false c t = t

-- status and description: Ok is final, Unset replaces nothing, and only Error has a description
pub record Outcome : Type 0 where
  pub code : StatusCode
  pub description : List ℕ

abbrev pub replacing : StatusCode → List ℕ → Outcome → Outcome
replacing Unset d o = o
replacing Ok d o = record { code = Ok; description = [] }
replacing Error d o = record { code = Error; description = d }

abbrev pub unless_ok : StatusCode → Outcome → Outcome → Outcome
unless_ok Unset o p = p
unless_ok Ok o p = o
unless_ok Error o p = p

abbrev pub stated : Bool → Call → Outcome → Outcome
stated true (Set l k n v) o = o
stated true (Event t z) o = o
stated true (Link t v) o = o
stated true (Status s d) o = unless_ok o.code o (replacing (status_of s) d o)
stated true (Rename t) o = o
stated false c o = o

abbrev pub unsaid : Outcome
unsaid = record { code = Unset; description = [] }

abbrev pub nothing : Content
nothing = record { kind = 0; value = []; time = pos 0 }

-- the rows: each identity once, where it came first, with what was said of it last
abbrev pub held_rows : List Call → List Answer → List RowFact
held_rows cs ns = map (λ p. row_of p.0 p.1) (settled same_id nothing (made 0 0 cs ns))

-- the facts held at the end
abbrev pub held : Opening → List Call → List Answer → ℤ → Facts
held o cs ns end =
    record {
      trace_high = o.trace_high;
      trace_low = o.trace_low;
      span_id = o.span_id;
      parent_id = o.parent_id;
      start = o.start;
      finish = end;
      kind = span_kind_of o.kind;
      status = (passed stated unsaid cs ns).code;
      name = passed named o.name cs ns;
      trace_state = o.trace_state;
      scope_name = o.scope_name;
      scope_version = o.scope_version;
      description = (passed stated unsaid cs ns).description;
      rows = held_rows cs ns;
    }
