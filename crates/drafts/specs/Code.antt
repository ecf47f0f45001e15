-- What the code answers on the way.
use Rattle.std.specs.Prelude.{ℕ, ◌+◌, ◌≤◌, Bool, false, cond, ◌&&◌, List, [], ◌∷◌, ◌++◌, length, replicate, Some, None, Option, ◌==◌}
use Rattle.std.specs.Str.{bytes_eq}
use Rattle.std.specs.Option.{option_map}
use Rattle.values.specs.Faults.{value_fault}
use Rattle.blocks.specs.First.{or_else}
use Rattle.blocks.specs.Facts.{RowFact, row_facts}
use Rattle.drafts.specs.declared.refusal.Refusal.{Refusal}
use Rattle.drafts.specs.declared.refusal.Refusal.TheVariants.{List as NoList, Owner, Value}
use Rattle.drafts.specs.declared.write.Entry.{Entry}
use Rattle.drafts.specs.declared.write.RowNumbers.{RowNumbers}
use Rattle.lent_bytes.specs.Memory.{written}
use Rattle.lent_bytes.specs.Fields.{bytes2, bytes4, ints8}
use Rattle.blocks.specs.Layout.{Row, row_place}
use Rattle.drafts.specs.Held.{Content}
use Rattle.drafts.specs.Writes.{id_bytes}
use Rattle.drafts.specs.Calls.{Opening}
use Rattle.drafts.specs.Refused.{full_refusal}
use Rattle.drafts.specs.Search.{place_from}
use Rattle.drafts.specs.Memory.{settable, unowned, key_refusal, room_of_set}

-- the number of the first row with this list and key, counted from i, whatever stands behind it
abbrev pub plain_from : ℕ → List ℕ → ℕ → List RowFact → Option ℕ
plain_from l k i [] = None
plain_from l k i (r ∷ rs) = cond (r.list == l && bytes_eq r.key k) (Some i) (plain_from l k (i + 1) rs)

-- the refusals of an attribute as one check after another
abbrev pub list_refusal : ℕ → Option Refusal
list_refusal l = cond (settable l) None (Some NoList)

abbrev pub owner_refusal : List ℕ → ℕ → Option Refusal
owner_refusal m l = cond (unowned m l) (Some Owner) None

abbrev pub content_refusal : List ℕ → ℕ → List ℕ → ℕ → List ℕ → Option Refusal
content_refusal m l k n v = or_else (key_refusal k) (or_else (option_map Value (value_fault n v)) (room_of_set m (place_from l k 0 (row_facts m)) l (length k) (length v)))

-- a check refused since the list is full
abbrev pub is_full : Option Refusal → Bool
is_full None = false
is_full (Some f) = full_refusal f

abbrev pub set_chain : List ℕ → ℕ → List ℕ → ℕ → List ℕ → Option Refusal
set_chain m l k n v = or_else (list_refusal l) (or_else (owner_refusal m l) (content_refusal m l k n v))

-- what the code's entry and its row mean
abbrev pub content_of : Entry → Content
content_of e = record { kind = e.kind; value = e.value.now; time = e.time }

abbrev pub numbers_of : RowNumbers → Row
numbers_of r =
    record {
      list = r.list;
      kind = r.kind;
      key_length = r.key_length;
      key_place = r.key_place;
      value_length = r.value_length;
      value_place = r.value_place;
      time = r.time;
    }

-- texts of a start that are not too long
pub record ShortTexts (o : Opening) : Type 0 where
  pub name : length o.name ≤ 255
  pub trace_state : length o.trace_state ≤ 512
  pub scope_name : length o.scope_name ≤ 255
  pub scope_version : length o.scope_version ≤ 255

-- parts of a header
abbrev pub numbered : List ℕ → Opening → ℕ → List ℕ
numbered m o u = written (written (written (written (written m 0 (1 ∷ [])) 4 (bytes4 (row_place o.capacity))) 8 (bytes2 o.capacity)) 10 (o.kind ∷ [])) 12 (bytes4 u)

abbrev pub identified : List ℕ → Opening → List ℕ
identified m o = written (written (written (written (written m 16 (id_bytes o.trace_high)) 24 (id_bytes o.trace_low)) 32 (id_bytes o.span_id)) 40 (id_bytes o.parent_id)) 48 (ints8 o.start)

abbrev pub placed : List ℕ → Opening → List ℕ
placed m o =
    let a : ℕ = length o.name in
    let b : ℕ = length o.trace_state in
    let c : ℕ = length o.scope_name in
    let d : ℕ = length o.scope_version in
    written (written (written (written m 80 (bytes4 0 ++ bytes4 a)) 88 (bytes4 a ++ bytes4 b)) 96 (bytes4 (a + b) ++ bytes4 c)) 104 (bytes4 (a + (b + c)) ++ bytes4 d)

-- memory of n zeros
abbrev pub zeros : ℕ → List ℕ
zeros n = replicate n 0
