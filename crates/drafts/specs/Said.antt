-- What a call as a value means, and what every call of a draft promises.
use Rattle.std.specs.Prelude.{◌≡◌, ℕ, List}
use Rattle.values.specs.declared.value.Scalar.{Scalar}
use Rattle.values.specs.Kinds.{scalar_number}
use Rattle.values.specs.Format.{atom_of, atom_kind}
use Rattle.values.specs.Encoding.{bytes_alone}
use Rattle.drafts.specs.declared.call.Call.{Call as CodeCall}
use Rattle.drafts.specs.declared.call.Call.TheVariants.{Set as CodeSet, Event as CodeEvent, Link as CodeLink, Status as CodeStatus, Rename as CodeRename}
use Rattle.drafts.specs.declared.draft.Draft.{Draft}
use Rattle.drafts.specs.Calls.{Call, Set, Event, Link, Status, Rename}
use Rattle.drafts.specs.Refused.{Answer}
use Rattle.drafts.specs.Memory.{answer, after}

abbrev pub call_of : CodeCall → Call
call_of (CodeSet l k n v) = Set l k.now n v.now
call_of (CodeEvent t z) = Event t.now z
call_of (CodeLink t v) = Link t.now v.now
call_of (CodeStatus s d) = Status s d.now
call_of (CodeRename t) = Rename t.now

-- an attribute whose value is a scalar
abbrev pub set_of : ℕ → List ℕ → Scalar → Call
set_of l k v = Set l k (scalar_number (atom_kind (atom_of v))) (bytes_alone (atom_of v))

-- the draft was d before the call c and is e after it, which was answered a; it holds the same memory
pub record Made (d e : Draft) (c : Call) (a : Answer) : Type 0 where
  pub answer : a ≡ answer d.mem.now c
  pub after : e.mem.now ≡ after d.mem.now c
  pub named : e.mem.ghost_name ≡ d.mem.ghost_name
