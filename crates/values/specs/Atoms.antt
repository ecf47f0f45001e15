-- What a value is, apart from its bytes.
use Rattle.std.specs.Prelude.{ℕ, Bool, List, ℤ}
use Rattle.values.specs.declared.kinds.ScalarKind.{ScalarKind}

-- a scalar: a double is its 64-bit pattern and the text that it came with
pub data Atom : Type 0 where
  flag : Bool → Atom
  whole : ℤ → Atom
  double : ℕ → List ℕ → Atom
  words : List ℕ → Atom

-- a value: a scalar, or an array of scalars of one kind
pub data Datum : Type 0 where
  single : Atom → Datum
  several : ScalarKind → List Atom → Datum
