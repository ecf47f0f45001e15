-- Numbers, ids and the words of kinds and statuses as texts are UTF-8.
use Rattle.std.proofs.Common.{ℕ, ◌/◌, ◌%◌, ◌^◌, ◌<◌, nat_lt, [], ◌∷◌, ℤ, pos, negsuc, Some, None, Option, codes, decimal, IsUtf8, refl, arith, ltb-true}
use Rattle.std.proofs.lemmas.Bool.{cond_both}
use Rattle.std.proofs.lemmas.Fmt.{IsAscii-decimal}
use Rattle.std.proofs.lemmas.Str.{IsUtf8-from_ascii}
use Rattle.values.specs.Atoms.{Datum}
use Rattle.blocks.specs.declared.span_kind.SpanKind.{SpanKind}
use Rattle.blocks.specs.declared.span_kind.SpanKind.TheVariants.{Internal, Server, Client, Producer, Consumer}
use Rattle.blocks.specs.declared.span_kind.StatusCode.{StatusCode}
use Rattle.blocks.specs.declared.span_kind.StatusCode.TheVariants.{Unset, Ok, Error}
use Rattle.blocks.specs.Names.{kind_name}
use Rattle.readers.specs.Reading.{Reading, number_of}
use Rattle.readers.specs.Places.{datadog_http_status_code, http_response_status_code, http_status_code}
use Rattle.derived.specs.Fields.{narrowed, or_number, or_zero, status_code as derived_code, code_under, field_status_code}
use Rattle.conversion.specs.Constants.{status_word}
use Rattle.conversion.specs.Forms.{string_form}
use Rattle.conversion.specs.Steps.{kind_form, id_digits}
use Rattle.conversion_law.specs.TextsAreUtf8.{Utf8Text}
use Rattle.conversion_law.proofs.Utf8.{constant, hex-utf8}

-- numbers
abbrev Narrow : Option ℕ → Type 0
Narrow None = Unit {0}
Narrow (Some n) = n < 2 ^ 32

narrow : (o : Option ℤ) → Narrow (narrowed o)
narrow None = tt
narrow (Some (pos n)) = cond_both (nat_lt n (2 ^ 32)) (Some n) None Narrow (λ t. ltb-true n (2 ^ 32) t) (λ f. tt)
narrow (Some (negsuc n)) = tt

narrow-or : (a b : Option ℕ) → Narrow a → Narrow b → Narrow (or_number a b)
narrow-or None b h g = g
narrow-or (Some n) b h g = h

narrow-zero : (o : Option ℕ) → Narrow o → or_zero o < 2 ^ 32
narrow-zero None h = omega arith
narrow-zero (Some n) h = h

code-narrow : (r : Reading) (k : ℕ) → Narrow (code_under r k)
code-narrow r k = narrow (number_of (r.span k))

pub code-utf8 : (r : Reading) → IsUtf8 (decimal (field_status_code r))
code-utf8 r =
    let own = code_under r datadog_http_status_code in
    let later = code_under r http_response_status_code in
    let older = code_under r http_status_code in
    let small = narrow-or own (derived_code r) (code-narrow r datadog_http_status_code) (narrow-or later older (code-narrow r http_response_status_code) (code-narrow r http_status_code)) in
    let n : field_status_code r < 2 ^ 32 = narrow-zero (or_number own (derived_code r)) small in
    IsUtf8-from_ascii (decimal (field_status_code r)) (IsAscii-decimal (field_status_code r) (omega arith))

pub digits-utf8 : (v : ℕ) → IsUtf8 (id_digits v)
digits-utf8 v = hex-utf8 ((v / 72057594037927936 % 256) ∷ (v / 281474976710656 % 256) ∷ (v / 1099511627776 % 256) ∷ (v / 4294967296 % 256) ∷ (v / 16777216 % 256) ∷ (v / 65536 % 256) ∷ (v / 256 % 256) ∷ (v % 256) ∷ [])
    (omega arith, (omega arith, (omega arith, (omega arith, (omega arith, (omega arith, (omega arith, (omega arith, tt))))))))

-- words
kind-word : (k : SpanKind) → IsUtf8 (kind_name k)
kind-word Internal = constant (codes "internal") refl
kind-word Server = constant (codes "server") refl
kind-word Client = constant (codes "client") refl
kind-word Producer = constant (codes "producer") refl
kind-word Consumer = constant (codes "consumer") refl

pub kind-utf8 : (o : Option Datum) (k : SpanKind) → Utf8Text (string_form o) → Utf8Text (kind_form o k)
kind-utf8 None k u = kind-word k
kind-utf8 (Some d) k u = u

pub status-utf8 : (c : StatusCode) → IsUtf8 (status_word c)
status-utf8 Unset = constant (codes "Unset") refl
status-utf8 Ok = constant (codes "Ok") refl
status-utf8 Error = constant (codes "Error") refl
