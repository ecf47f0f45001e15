-- How values stand in bytes. Numbers are little endian; the readings are total, with a missing byte
-- read as 0, and whether bytes have the form of their kind is asked apart.
use Rattle.std.specs.Prelude.{ℕ, zero, suc, ◌+◌, ◌-◌, Bool, true, cond, ◌&&◌, List, [], ◌∷◌, length, Some, None, Option, ◌==◌, nat_le, nat_lt, slice_index}
use Rattle.lent_bytes.specs.Memory.{portion, rest}
use Rattle.lent_bytes.specs.Fields.{u16_in, u64_in, i64_in}
use Rattle.values.specs.declared.kinds.ScalarKind.{ScalarKind}
use Rattle.values.specs.declared.kinds.ScalarKind.TheVariants.{Bool as KBool, I64 as KI64, F64 as KF64, String as KString}
use Rattle.values.specs.declared.kinds.ValueKind.{ValueKind}
use Rattle.values.specs.declared.kinds.ValueKind.TheVariants.{Scalar as KScalar, Array as KArray}
use Rattle.values.specs.declared.value.Scalar.{Scalar}
use Rattle.values.specs.declared.value.Scalar.TheVariants.{Bool as SBool, I64 as SI64, F64 as SF64, String as SString}
use Rattle.values.specs.declared.value.Value.{Value}
use Rattle.values.specs.declared.value.Value.TheVariants.{Scalar as VScalar, Array as VArray}
use Rattle.values.specs.declared.elements.Element.{Element as CodeElement}
use Rattle.values.specs.Atoms.{Atom, Datum, flag, whole, double, words, single, several}
use Rattle.values.specs.Kinds.{kind_of}

-- a scalar that is a value by itself: a double's text and a string go to the end of the bytes
abbrev pub alone : ScalarKind → List ℕ → Atom
alone KBool b = flag (slice_index b 0 == 1)
alone KI64 b = whole (i64_in b 0)
alone KF64 b = double (u64_in b 0) (rest b 8)
alone KString b = words b

-- a bool is one byte 0 or 1, an integer 8 bytes, a double 8 bytes and a text of 1 to 400
abbrev pub alone_formed : ScalarKind → List ℕ → Bool
alone_formed KBool b = length b == 1 && nat_lt (slice_index b 0) 2
alone_formed KI64 b = length b == 8
alone_formed KF64 b = nat_lt 8 (length b) && nat_le (length b) 408
alone_formed KString b = true

-- an array's element, and how many bytes it takes
pub record Element : Type 0 where
  pub atom : Atom
  pub size : ℕ

abbrev pub flag_at : List ℕ → Option Element
flag_at b = cond (length b == 0) None (cond (nat_lt 1 (slice_index b 0)) None (Some record { atom = flag (slice_index b 0 == 1); size = 1 }))

abbrev pub whole_at : List ℕ → Option Element
whole_at b = cond (nat_lt (length b) 8) None (Some record { atom = whole (i64_in b 0); size = 8 })

-- a double's text has its length in 2 bytes before it, and so has a string
abbrev pub double_sized : List ℕ → ℕ → Option Element
double_sized b n =
    cond (n == 0) None (cond (nat_lt 400 n) None (cond (nat_lt (length b) (10 + n)) None (Some record { atom = double (u64_in b 0) (portion b 10 n); size = 10 + n })))

abbrev pub words_sized : List ℕ → ℕ → Option Element
words_sized b n = cond (nat_lt (length b) (2 + n)) None (Some record { atom = words (portion b 2 n); size = 2 + n })

-- the element at the front of an array's bytes; none where there is none, or a broken one
abbrev pub element : ScalarKind → List ℕ → Option Element
element KBool b = flag_at b
element KI64 b = whole_at b
element KF64 b = double_sized b (u16_in b 8)
element KString b = words_sized b (u16_in b 0)

abbrev pub chained : Option Element → (ℕ → List Atom) → List Atom
chained None later = []
chained (Some e) later = e.atom ∷ later (e.size - 1)

-- the elements behind the first n bytes, up to a broken one
unfoldable pub elements_past : ScalarKind → ℕ → List ℕ → List Atom
elements_past k n [] = []
elements_past k zero (x ∷ b) = chained (element k (x ∷ b)) (λ n. elements_past k n b)
elements_past k (suc n) (x ∷ b) = elements_past k n b

unfoldable pub elements_in : ScalarKind → List ℕ → List Atom
elements_in k b = elements_past k 0 b

-- the bytes that an element takes in an array
abbrev pub size_of : Atom → ℕ
size_of (flag v) = 1
size_of (whole z) = 8
size_of (double p t) = 10 + length t
size_of (words t) = 2 + length t

abbrev pub sizes_of : List Atom → ℕ
sizes_of [] = 0
sizes_of (a ∷ xs) = size_of a + sizes_of xs

-- an array has its form where its elements fill its bytes
abbrev pub formed : ValueKind → List ℕ → Bool
formed (KScalar k) b = alone_formed k b
formed (KArray k) b = sizes_of (elements_in k b) == length b

-- the value of that kind in these bytes, whatever they are
abbrev pub datum_in : ValueKind → List ℕ → Datum
datum_in (KScalar k) b = single (alone k b)
datum_in (KArray k) b = several k (elements_in k b)

abbrev pub datum_of : Option ValueKind → List ℕ → Option Datum
datum_of None b = None
datum_of (Some k) b = cond (formed k b) (Some (datum_in k b)) None

-- the value that bytes are under a kind's number: none where the number names no kind or the form is broken
abbrev pub value_of : ℕ → List ℕ → Option Datum
value_of n b = datum_of (kind_of n) b

abbrev pub atom_kind : Atom → ScalarKind
atom_kind (flag v) = KBool
atom_kind (whole z) = KI64
atom_kind (double p t) = KF64
atom_kind (words t) = KString

abbrev pub datum_kind : Datum → ValueKind
datum_kind (single a) = KScalar (atom_kind a)
datum_kind (several k xs) = KArray k

-- what the code's types mean
abbrev pub atom_of : Scalar → Atom
atom_of (SBool b) = flag b
atom_of (SI64 z) = whole z
atom_of (SF64 d) = double d.pattern d.text.now
atom_of (SString t) = words t.now

abbrev pub element_of : CodeElement → Element
element_of e = record { atom = atom_of e.value; size = e.size }

abbrev pub meant : Value → Datum
meant (VScalar s) = single (atom_of s)
meant (VArray a) = several a.kind (elements_in a.kind a.bytes.now)
