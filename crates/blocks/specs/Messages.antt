-- What a refusal says to a reader, and the words for the part that it is about.
use Rattle.std.specs.Prelude.{ℕ, List as Text, codes}
use Rattle.values.specs.declared.check.ValueFault.TheVariants.{Form, NotUtf8 as ValueNotUtf8, TooLong}
use Rattle.blocks.specs.declared.faults.Part.{Part}
use Rattle.blocks.specs.declared.faults.Part.TheVariants.{Block as WholePart, HeaderText as TextPart, Key as KeyPart, Value as ValuePart}
use Rattle.blocks.specs.declared.faults.TextFault.{TextFault}
use Rattle.blocks.specs.declared.faults.TextFault.TheVariants.{Place, NotUtf8}
use Rattle.blocks.specs.declared.faults.RowFault.{RowFault}
use Rattle.blocks.specs.declared.faults.RowFault.TheVariants.{List, Key, KeyNotUtf8, Value, Twice}
use Rattle.blocks.specs.declared.faults.BlockFault.{BlockFault}
use Rattle.blocks.specs.declared.faults.BlockFault.TheVariants.{Length, Header, Layout, Text as TextCase, Row}

abbrev pub text_message : TextFault → Text ℕ
text_message Place = codes "a header text too long or beyond the text used"
text_message NotUtf8 = codes "not UTF-8"

-- of a row the fault of a value says more than of bytes alone
abbrev pub row_message : RowFault → Text ℕ
row_message List = codes "no such list, no owner above, or over 128 rows of the list"
row_message Key = codes "key length or place"
row_message KeyNotUtf8 = codes "not UTF-8"
row_message (Value Form) = codes "value form, place or a field that should be zero"
row_message (Value ValueNotUtf8) = codes "not UTF-8"
row_message (Value TooLong) = codes "display text over 4,096 bytes"
row_message Twice = codes "resource key twice"

abbrev pub block_message : BlockFault → Text ℕ
block_message Length = codes "length outside 120 to 65,536"
block_message Header = codes "version, kind, status, state or zeros"
block_message Layout = codes "capacity, rows, text offset or text used"
block_message (TextCase f) = text_message f
block_message (Row r) = row_message r.fault

abbrev pub part_name : Part → Text ℕ
part_name WholePart = codes "block"
part_name TextPart = codes "header text"
part_name KeyPart = codes "list or key of a row"
part_name ValuePart = codes "value of a row"
