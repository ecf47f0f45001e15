-- What answers say to a reader.
use Rattle.std.specs.Prelude.{ℕ, List as Bytes, codes}
use Rattle.values.specs.Faults.{fault_message}
use Rattle.values.specs.declared.check.ValueFault.TheVariants.{Form, NotUtf8 as ValueNotUtf8, TooLong}
use Rattle.blocks.specs.declared.faults.TextFault.{TextFault}
use Rattle.blocks.specs.declared.faults.TextFault.TheVariants.{Place, NotUtf8}
use Rattle.drafts.specs.declared.refusal.Applied.{Applied}
use Rattle.drafts.specs.declared.refusal.Applied.TheVariants.{Changed, Unchanged}
use Rattle.drafts.specs.declared.refusal.Refusal.{Refusal}
use Rattle.drafts.specs.declared.refusal.Refusal.TheVariants.{List, Owner, Key, KeyNotUtf8, Value, Text, ListFull, RowsFull, NoRoom, Status}
use Rattle.drafts.specs.declared.refusal.StartFault.{StartFault}
use Rattle.drafts.specs.declared.refusal.StartFault.TheVariants.{Kind, Memory, Text as StartText, NoRoom as StartNoRoom}

abbrev pub applied_message : Applied → Bytes ℕ
applied_message Changed = codes "applied"
applied_message Unchanged = codes "nothing changed"

-- of a text that was handed in; a block's own words speak of its place as well
abbrev pub text_meaning : TextFault → Bytes ℕ
text_meaning Place = codes "the text is too long"
text_meaning NotUtf8 = codes "the text is not UTF-8"

abbrev pub refusal_message : Refusal → Bytes ℕ
refusal_message List = codes "no attributes go to this list"
refusal_message Owner = codes "no event or link that it would belong to"
refusal_message Key = codes "the key does not have 1 to 255 bytes"
refusal_message KeyNotUtf8 = codes "the key is not UTF-8"
refusal_message (Value Form) = codes "the value does not have the form of its kind, or a link's value not 25 bytes"
refusal_message (Value ValueNotUtf8) = fault_message ValueNotUtf8
refusal_message (Value TooLong) = fault_message TooLong
refusal_message (Text f) = text_meaning f
refusal_message ListFull = codes "the list has 128 rows"
refusal_message RowsFull = codes "every row is in use"
refusal_message NoRoom = codes "the new text does not fit"
refusal_message Status = codes "the status is above 2"

abbrev pub start_message : StartFault → Bytes ℕ
start_message Kind = codes "the kind is not from 1 to 5"
start_message Memory = codes "the memory does not have 120 to 65,536 bytes, or no place for so many rows"
start_message (StartText f) = text_meaning f
start_message StartNoRoom = codes "the texts do not fit behind the rows"
