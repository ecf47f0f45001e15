-- Why a span is not converted: each fault's number, and its words.
use Rattle.std.specs.Prelude.{ℕ, List, codes}
use Rattle.conversion.specs.declared.faults.ConvertFault.{ConvertFault}
use Rattle.conversion.specs.declared.faults.ConvertFault.TheVariants.{TableTooSmall, ArenaTooLarge, ArenaTooSmall}

abbrev pub fault_number : ConvertFault → ℕ
fault_number TableTooSmall = 30
fault_number ArenaTooLarge = 31
fault_number ArenaTooSmall = 32

abbrev pub fault_message : ConvertFault → List ℕ
fault_message TableTooSmall = codes "the meta table has fewer than 398 rows"
fault_message ArenaTooLarge = codes "the arena has more than 65,536 bytes"
fault_message ArenaTooSmall = codes "the texts that are placed do not fit the arena"
