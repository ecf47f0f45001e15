-- What a line says to a draft.
use Rattle.std.specs.Prelude.{ℕ, List, codes}
use Rattle.drafts.specs.Calls.{Opening as SaidOpening, Call, Set, Event, Link, Status, Rename}
use Rattle.draft.specs.declared.opening.Opening.{Opening}
use Rattle.draft.specs.declared.said.Said.{Said}
use Rattle.draft.specs.declared.said.Said.TheVariants.{Set as SaidSet, Event as SaidEvent, Link as SaidLink, Status as SaidStatus, Rename as SaidRename}

abbrev pub call_said : Said → Call
call_said (SaidSet l k n v) = Set l k.items n v.items
call_said (SaidEvent t z) = Event t.items z
call_said (SaidLink t v) = Link t.items v.items
call_said (SaidStatus s d) = Status s d.items
call_said (SaidRename t) = Rename t.items

-- the word that such a call begins with
abbrev pub word_of_call : Said → List ℕ
word_of_call (SaidSet l k n v) = codes "set"
word_of_call (SaidEvent t z) = codes "event"
word_of_call (SaidLink t v) = codes "link"
word_of_call (SaidStatus s d) = codes "status"
word_of_call (SaidRename t) = codes "rename"

abbrev pub opening_said : Opening → SaidOpening
opening_said o =
    record {
      capacity = o.rows;
      kind = o.kind;
      trace_high = o.trace_id_high;
      trace_low = o.trace_id_low;
      span_id = o.span_id;
      parent_id = o.parent_id;
      start = o.start_time;
      name = o.name.items;
      trace_state = o.trace_state.items;
      scope_name = o.scope_name.items;
      scope_version = o.scope_version.items;
    }
