-- The answers to calls, and their numbers: 0 applied, 1 nothing changed, and each refusal's own.
use Rattle.std.specs.Prelude.{ℕ, Bool, true, false, Ok, Err, Result}
use Rattle.values.specs.Faults.{fault_number}
use Rattle.blocks.specs.Answers.{text_number}
use Rattle.drafts.specs.declared.refusal.Applied.{Applied}
use Rattle.drafts.specs.declared.refusal.Applied.TheVariants.{Changed, Unchanged}
use Rattle.drafts.specs.declared.refusal.Refusal.{Refusal}
use Rattle.drafts.specs.declared.refusal.Refusal.TheVariants.{List, Owner, Key, KeyNotUtf8, Value, Text, ListFull, RowsFull, NoRoom, Status}
use Rattle.drafts.specs.declared.refusal.StartFault.{StartFault}
use Rattle.drafts.specs.declared.refusal.StartFault.TheVariants.{Kind, Memory, Text as StartText, NoRoom as StartNoRoom}

abbrev pub Answer : Type 0
Answer = Result Applied Refusal

abbrev pub applied_number : Applied → ℕ
applied_number Changed = 0
applied_number Unchanged = 1

abbrev pub refusal_number : Refusal → ℕ
refusal_number List = 20
refusal_number Owner = 21
refusal_number Key = 7
refusal_number KeyNotUtf8 = 5
refusal_number (Value f) = fault_number f
refusal_number (Text f) = text_number f
refusal_number ListFull = 22
refusal_number RowsFull = 23
refusal_number NoRoom = 13
refusal_number Status = 24

abbrev pub start_number : StartFault → ℕ
start_number Kind = 11
start_number Memory = 12
start_number (StartText f) = text_number f
start_number StartNoRoom = 13

-- the call was not refused
abbrev pub accepted : Answer → Bool
accepted (Ok a) = true
accepted (Err f) = false

-- the call changed what the draft holds
abbrev pub changes : Answer → Bool
changes (Ok Changed) = true
changes (Ok Unchanged) = false
changes (Err f) = false

-- the call was refused since its list is full
abbrev pub full_refusal : Refusal → Bool
full_refusal List = false
full_refusal Owner = false
full_refusal Key = false
full_refusal KeyNotUtf8 = false
full_refusal (Value f) = false
full_refusal (Text f) = false
full_refusal ListFull = true
full_refusal RowsFull = false
full_refusal NoRoom = false
full_refusal Status = false

abbrev pub list_full : Answer → Bool
list_full (Ok a) = false
list_full (Err f) = full_refusal f

-- the number of an answer
abbrev pub answer_number : Answer → ℕ
answer_number (Ok a) = applied_number a
answer_number (Err f) = refusal_number f
