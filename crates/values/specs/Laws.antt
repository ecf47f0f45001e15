-- What holds of the definitions as a whole.
use Rattle.std.specs.Prelude.{◌≡◌, ℕ, true, List, [], ◌∷◌, pos, negsuc, Some, None, IsUtf8, from_bits}
use Rattle.std.specs.Float.{binary64}
use Rattle.std.proofs.Math.Utf8.{encodes, scalars}
use Rattle.lent_bytes.specs.Memory.{clip}
use Rattle.values.specs.Atoms.{Datum}
use Rattle.values.specs.Doubles.{whole_of}
use Rattle.values.specs.Format.{value_of}
use Rattle.values.specs.Shown.{display, dd_string, string_repr}
use Rattle.values.specs.Faults.{value_fault}

-- a value that passed the check is never clipped: each of its texts fits 4,096 bytes
abbrev pub Unclipped : List ℕ → Type 0
Unclipped t = clip 4096 t ≡ t

abbrev pub CheckedIsNeverClipped : Type 0
CheckedIsNeverClipped =
    (n : ℕ) (b : List ℕ) (d : Datum) → value_of n b ≡ Some d → value_fault n b ≡ None
    → Unclipped (display d) × Unclipped (string_repr d) × Unclipped (dd_string d)

-- these code points are Unicode scalar values, and these bytes are their encoding
abbrev pub Spells : List ℕ → List ℕ → Type 0
Spells cs bs = (scalars cs ≡ true) × (encodes cs ≡ bs)

-- worked examples of RFC 3629 and of binary64
pub record WorkedExamples : Type 0 where
  -- RFC 3629, section 7
  pub not_identical_to_alpha : Spells (0x41 ∷ 0x2262 ∷ 0x391 ∷ 0x2e ∷ []) (0x41 ∷ 0xe2 ∷ 0x89 ∷ 0xa2 ∷ 0xce ∷ 0x91 ∷ 0x2e ∷ [])
  pub hangugeo : Spells (0xd55c ∷ 0xad6d ∷ 0xc5b4 ∷ []) (0xed ∷ 0x95 ∷ 0x9c ∷ 0xea ∷ 0xb5 ∷ 0xad ∷ 0xec ∷ 0x96 ∷ 0xb4 ∷ [])
  pub nihongo : Spells (0x65e5 ∷ 0x672c ∷ 0x8a9e ∷ []) (0xe6 ∷ 0x97 ∷ 0xa5 ∷ 0xe6 ∷ 0x9c ∷ 0xac ∷ 0xe8 ∷ 0xaa ∷ 0x9e ∷ [])
  pub stump_of_tree : Spells (0xfeff ∷ 0x233b4 ∷ []) (0xef ∷ 0xbb ∷ 0xbf ∷ 0xf0 ∷ 0xa3 ∷ 0x8e ∷ 0xb4 ∷ [])
  pub last_code_point : Spells (0x10ffff ∷ []) (0xf4 ∷ 0x8f ∷ 0xbf ∷ 0xbf ∷ [])
  -- no encoding: the overlong forms of RFC 3629, section 10, a surrogate and a pair of them, and what lies past U+10FFFF
  pub overlong_nul : IsUtf8 (0xc0 ∷ 0x80 ∷ []) → ⊥
  pub overlong_dots : IsUtf8 (0x2f ∷ 0xc0 ∷ 0xae ∷ 0x2e ∷ 0x2f ∷ []) → ⊥
  pub surrogate : IsUtf8 (0xed ∷ 0xa0 ∷ 0x80 ∷ []) → ⊥
  pub surrogate_pair : IsUtf8 (0xed ∷ 0xa1 ∷ 0x8c ∷ 0xed ∷ 0xbe ∷ 0xb4 ∷ []) → ⊥
  pub past_the_last : IsUtf8 (0xf4 ∷ 0x90 ∷ 0x80 ∷ 0x80 ∷ []) → ⊥
  pub cut_short : IsUtf8 (0xe2 ∷ 0x82 ∷ []) → ⊥
  pub lone_continuation : IsUtf8 (0x80 ∷ []) → ⊥
  -- binary64: both zeros, one, one half, 2^53, -2^63, 2^63, infinity and a NaN
  pub zero : whole_of (from_bits binary64 0) ≡ Some (pos 0)
  pub minus_zero : whole_of (from_bits binary64 0x8000_0000_0000_0000) ≡ Some (pos 0)
  pub one : whole_of (from_bits binary64 0x3ff0_0000_0000_0000) ≡ Some (pos 1)
  pub half : whole_of (from_bits binary64 0x3fe0_0000_0000_0000) ≡ None
  pub two_to_53 : whole_of (from_bits binary64 0x4340_0000_0000_0000) ≡ Some (pos 9007199254740992)
  pub least : whole_of (from_bits binary64 0xc3e0_0000_0000_0000) ≡ Some (negsuc 9223372036854775807)
  pub two_to_63 : whole_of (from_bits binary64 0x43e0_0000_0000_0000) ≡ None
  pub infinity : whole_of (from_bits binary64 0x7ff0_0000_0000_0000) ≡ None
  pub minus_infinity : whole_of (from_bits binary64 0xfff0_0000_0000_0000) ≡ None
  pub not_a_number : whole_of (from_bits binary64 0x7ff8_0000_0000_0000) ≡ None
