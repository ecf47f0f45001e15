-- What a refusal answers: its number, the row, 65535 for none, and the part of the block that it is about.
use Rattle.std.specs.Prelude.{ℕ, Some, None, Option}
use Rattle.values.specs.Faults.{fault_number}
use Rattle.blocks.specs.declared.faults.Part.{Part}
use Rattle.blocks.specs.declared.faults.Part.TheVariants.{Block as WholePart, HeaderText as TextPart, Key as KeyPart, Value as ValuePart}
use Rattle.blocks.specs.declared.faults.TextFault.{TextFault}
use Rattle.blocks.specs.declared.faults.TextFault.TheVariants.{Place, NotUtf8}
use Rattle.blocks.specs.declared.faults.RowFault.{RowFault}
use Rattle.blocks.specs.declared.faults.RowFault.TheVariants.{List, Key, KeyNotUtf8, Value, Twice}
use Rattle.blocks.specs.declared.faults.BlockFault.{BlockFault}
use Rattle.blocks.specs.declared.faults.BlockFault.TheVariants.{Length, Header, Layout, Text, Row}

abbrev pub text_number : TextFault → ℕ
text_number Place = 4
text_number NotUtf8 = 5

abbrev pub row_number : RowFault → ℕ
row_number List = 6
row_number Key = 7
row_number KeyNotUtf8 = 5
row_number (Value f) = fault_number f
row_number Twice = 10

abbrev pub block_number : BlockFault → ℕ
block_number Length = 1
block_number Header = 2
block_number Layout = 3
block_number (Text f) = text_number f
block_number (Row r) = row_number r.fault

-- the row, if it is about one; 65535 is answered for none
abbrev pub row_of : BlockFault → Option ℕ
row_of Length = None
row_of Header = None
row_of Layout = None
row_of (Text f) = None
row_of (Row r) = Some r.row

abbrev pub faulty_row : BlockFault → ℕ
faulty_row Length = 65535
faulty_row Header = 65535
faulty_row Layout = 65535
faulty_row (Text f) = 65535
faulty_row (Row r) = r.row

-- 0 the block, 1 a header text, 2 a row's list or key, 3 its value
abbrev pub part_number : Part → ℕ
part_number WholePart = 0
part_number TextPart = 1
part_number KeyPart = 2
part_number ValuePart = 3

abbrev pub row_part : RowFault → ℕ
row_part List = 2
row_part Key = 2
row_part KeyNotUtf8 = 2
row_part (Value f) = 3
row_part Twice = 2

abbrev pub block_part : BlockFault → ℕ
block_part Length = 0
block_part Header = 0
block_part Layout = 0
block_part (Text f) = 1
block_part (Row r) = row_part r.fault
