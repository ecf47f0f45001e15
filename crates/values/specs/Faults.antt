-- When bytes are refused as a value, in the order of the checks.
use Rattle.std.specs.Prelude.{ℕ, cond, List, codes, length, Some, None, Option, nat_le}
use Rattle.values.specs.declared.check.ValueFault.{ValueFault}
use Rattle.values.specs.declared.check.ValueFault.TheVariants.{Form, NotUtf8, TooLong}
use Rattle.values.specs.Atoms.{Datum}
use Rattle.values.specs.Format.{value_of}
use Rattle.values.specs.Shown.{display, datum_readable}

-- the number under which a fault is answered
abbrev pub fault_number : ValueFault → ℕ
fault_number Form = 8
fault_number NotUtf8 = 5
fault_number TooLong = 9

-- what it says to a reader
abbrev pub fault_message : ValueFault → List ℕ
fault_message Form = codes "the bytes do not have the form of the kind"
fault_message NotUtf8 = codes "a text in the value is not UTF-8"
fault_message TooLong = codes "the display text has over 4,096 bytes"

abbrev pub datum_fault : Option Datum → Option ValueFault
datum_fault None = Some Form
datum_fault (Some d) = cond (datum_readable d) (cond (nat_le (length (display d)) 4096) None (Some TooLong)) (Some NotUtf8)

abbrev pub value_fault : ℕ → List ℕ → Option ValueFault
value_fault n b = datum_fault (value_of n b)
