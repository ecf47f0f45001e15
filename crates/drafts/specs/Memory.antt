-- What calls answer, and what they leave in memory, whatever it holds.
use Rattle.std.specs.Prelude.{ℕ, ◌+◌, min, Bool, cond, ◌&&◌, ◌||◌, List, [], ◌∷◌, length, Some, None, Ok, Err, Option, ◌==◌, nat_le, nat_lt}
use Rattle.std.specs.Option.{option_map}
use Rattle.values.specs.Unicode.{is_text}
use Rattle.values.specs.Faults.{value_fault}
use Rattle.values.specs.declared.check.ValueFault.TheVariants.{Form}
use Rattle.blocks.specs.declared.faults.TextFault.{TextFault}
use Rattle.blocks.specs.declared.faults.TextFault.TheVariants.{Place as TextPlace, NotUtf8 as TextNotUtf8}
use Rattle.blocks.specs.First.{or_else}
use Rattle.blocks.specs.Faults.{above}
use Rattle.blocks.specs.Facts.{row_facts}
use Rattle.blocks.specs.Layout.{rows_in, offset_in, capacity_in, status_in, used_in, row_place}
use Rattle.drafts.specs.declared.refusal.Applied.{Applied}
use Rattle.drafts.specs.declared.refusal.Applied.TheVariants.{Changed, Unchanged}
use Rattle.drafts.specs.declared.refusal.Refusal.{Refusal}
use Rattle.drafts.specs.declared.refusal.Refusal.TheVariants.{List as NoList, Owner, Key, KeyNotUtf8, Value, Text, ListFull, RowsFull, NoRoom, Status as NoStatus}
use Rattle.drafts.specs.declared.refusal.StartFault.{StartFault}
use Rattle.drafts.specs.declared.refusal.StartFault.TheVariants.{Kind, Memory, Text as StartText, NoRoom as StartNoRoom}
use Rattle.drafts.specs.Calls.{Opening, Call, Set, Event, Link, Status, Rename}
use Rattle.drafts.specs.Refused.{Answer, changes, list_full}
use Rattle.drafts.specs.Held.{attribute_content, event_content, link_content}
use Rattle.drafts.specs.Search.{place_from}
use Rattle.drafts.specs.Writes.{stored, headed, status_written, drop_more, opening_texts}

-- a text of at most so many bytes
abbrev pub text_refusal : ℕ → List ℕ → Option TextFault
text_refusal most t = cond (nat_le (length t) most) (cond (is_text t) None (Some TextNotUtf8)) (Some TextPlace)

abbrev pub key_refusal : List ℕ → Option Refusal
key_refusal k = cond (nat_le 1 (length k) && nat_le (length k) 255) (cond (is_text k) None (Some KeyNotUtf8)) (Some Key)

-- attributes go to the lists of the span, the resource, the scope, an event and a link
abbrev pub settable : ℕ → Bool
settable l = nat_lt l 3 || (l == 4 || l == 6)

-- the event or link that an attribute would belong to is missing
abbrev pub unowned : List ℕ → ℕ → Bool
unowned m l = (l == 4 && above m 3 (rows_in m) == 0) || (l == 6 && above m 5 (rows_in m) == 0)

-- n more bytes of text fit behind the text in use
abbrev pub fits : List ℕ → ℕ → Bool
fits m n = nat_le (offset_in m + (used_in m + n)) (min (length m) 65536)

abbrev pub text_room : List ℕ → ℕ → Option Refusal
text_room m n = cond (fits m n) None (Some NoRoom)

-- one more row of the list l, with n bytes of text
abbrev pub row_room : List ℕ → ℕ → ℕ → Option Refusal
row_room m l n = cond (nat_le 128 (above m l (rows_in m))) (Some ListFull) (cond (nat_le (capacity_in m) (rows_in m)) (Some RowsFull) (text_room m n))

-- room for an attribute: only its value where its row was found
abbrev pub room_of_set : List ℕ → Option ℕ → ℕ → ℕ → ℕ → Option Refusal
room_of_set m None l k v = row_room m l (k + v)
room_of_set m (Some i) l k v = text_room m v

abbrev pub set_refusal : List ℕ → Option ℕ → ℕ → List ℕ → ℕ → List ℕ → Option Refusal
set_refusal m o l k n v =
    cond (settable l)
    (cond (unowned m l) (Some Owner) (or_else (key_refusal k) (or_else (option_map Value (value_fault n v)) (room_of_set m o l (length k) (length v)))))
    (Some NoList)

abbrev pub event_refusal : List ℕ → List ℕ → Option Refusal
event_refusal m t = or_else (option_map Text (text_refusal 255 t)) (row_room m 3 (length t))

abbrev pub link_refusal : List ℕ → List ℕ → List ℕ → Option Refusal
link_refusal m t v = or_else (option_map Text (text_refusal 512 t)) (cond (length v == 25) (row_room m 5 (length t + length v)) (Some (Value Form)))

-- a text of the header that would be held
abbrev pub head_refusal : List ℕ → ℕ → List ℕ → Option Refusal
head_refusal m most t = or_else (option_map Text (text_refusal most t)) (text_room m (length t))

-- Ok is final, and Unset replaces nothing
abbrev pub status_stays : List ℕ → ℕ → Bool
status_stays m s = status_in m == 1 || s == 0

abbrev pub status_refusal : List ℕ → ℕ → List ℕ → Option Refusal
status_refusal m s d = cond (nat_le s 2) (cond (status_stays m s) None (cond (s == 1) None (head_refusal m 1024 d))) (Some NoStatus)

abbrev pub refusal : List ℕ → Call → Option Refusal
refusal m (Set l k n v) = set_refusal m (place_from l k 0 (row_facts m)) l k n v
refusal m (Event t z) = event_refusal m t
refusal m (Link t v) = link_refusal m t v
refusal m (Status s d) = status_refusal m s d
refusal m (Rename t) = head_refusal m 255 t

-- what a call that is not refused answers
abbrev pub applied : List ℕ → Call → Applied
applied m (Set l k n v) = Changed
applied m (Event t z) = Changed
applied m (Link t v) = Changed
applied m (Status s d) = cond (status_stays m s) Unchanged Changed
applied m (Rename t) = Changed

abbrev pub answered : Option Refusal → Applied → Answer
answered None a = Ok a
answered (Some f) a = Err f

unfoldable pub answer : List ℕ → Call → Answer
answer m c = answered (refusal m c) (applied m c)

-- what a call that changes something leaves
abbrev pub done : List ℕ → Call → List ℕ
done m (Set l k n v) = stored m (place_from l k 0 (row_facts m)) l k (attribute_content n v)
done m (Event t z) = stored m None 3 t (event_content z)
done m (Link t v) = stored m None 5 t (link_content v)
done m (Status s d) = status_written m s d
done m (Rename t) = headed m 80 t

-- what a call leaves whose list is full: the dropped attributes of the span, events and links are counted
abbrev pub counted : List ℕ → Call → List ℕ
counted m (Set l k n v) = cond (l == 0) (drop_more m 64) m
counted m (Event t z) = drop_more m 68
counted m (Link t v) = drop_more m 72
counted m (Status s d) = m
counted m (Rename t) = m

-- any other refused call changes nothing
unfoldable pub after : List ℕ → Call → List ℕ
after m c = cond (changes (answer m c)) (done m c) (cond (list_full (answer m c)) (counted m c) m)

-- calls one after another
abbrev pub past : List ℕ → List Call → List ℕ
past m [] = m
past m (c ∷ cs) = past (after m c) cs

abbrev pub answers : List ℕ → List Call → List Answer
answers m [] = []
answers m (c ∷ cs) = answer m c ∷ answers (after m c) cs

-- a start
abbrev pub start_texts : Opening → Option TextFault
start_texts o = or_else (text_refusal 255 o.name) (or_else (text_refusal 512 o.trace_state) (or_else (text_refusal 255 o.scope_name) (text_refusal 255 o.scope_version)))

abbrev pub start_memory : ℕ → ℕ → Bool
start_memory n c = nat_le 120 n && (nat_le n 65536 && (nat_le c 1024 && nat_le (row_place c) n))

abbrev pub start_fault : ℕ → Opening → Option StartFault
start_fault n o =
    cond (nat_le 1 o.kind && nat_le o.kind 5)
    (cond (start_memory n o.capacity)
    (or_else (option_map StartText (start_texts o)) (cond (nat_le (row_place o.capacity + length (opening_texts o)) n) None (Some StartNoRoom)))
    (Some Memory))
    (Some Kind)
