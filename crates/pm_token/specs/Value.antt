-- The values of string literals of every kind.
use Rattle.std.specs.Prelude.{◌≡◌, ◌↔◌, ℕ, IfOk, String, Vec, string_bytes, List, [], ◌∷◌, ◌++◌, codes, encode_utf8}
use Rattle.std.specs.Prelude.{Option, Some, None, Result, Ok, Err}
use Rattle.std.specs.List.{flat_map}
use Rattle.std.specs.Option.{option_map}
use Rattle.std.specs.Str.{chars, encode_utf8_all}
use Rattle.literal_escaper.specs.declared.errors.EscapeError.{EscapeError}
use Rattle.literal_escaper.specs.declared.mixed_unit.MixedUnit.{MixedUnit}
use Rattle.literal_escaper.specs.declared.mixed_unit.MixedUnit.TheVariants.{Char, HighByte}
use Rattle.literal_escaper.specs.Items.{items}
use Rattle.literal_escaper.specs.Kind.{Kind, string_kind, byte_kind, c_kind}
use Rattle.literal_escaper.specs.Value.{value_of}
use Rattle.pm_token.specs.declared.literals.conversion.ConversionErrorKind.{ConversionErrorKind}
use Rattle.pm_token.specs.declared.literals.conversion.ConversionErrorKind.TheVariants.{FailedToUnescape}
use Rattle.pm_token.specs.declared.literals.conversion.ConversionErrorKind.TheVariants.{InvalidLiteralKind}
use Rattle.pm_token.specs.Content.{cooked_content, raw_content}

-- the units of a content with escapes, or its last error
abbrev pub units : {U : Type 0} → Kind U → List ℕ → Result (List U) EscapeError
units kind content = value_of (items kind content)

-- `literal-value`: the value of a content with escapes or of a raw content, or else the error
abbrev pub value_from : {V : Type 0} → Option (Result V EscapeError) → Option V → Result V ConversionErrorKind
value_from (Some (Ok value)) raw = Ok value
value_from (Some (Err fault)) raw = Err (FailedToUnescape fault)
value_from None (Some value) = Ok value
value_from None None = Err InvalidLiteralKind

-- whether a call returns this value, which `seen` takes from its result, or runs out of memory. It never runs out of
-- memory instead of returning `InvalidLiteralKind`
pub record Answers {T V : Type 0} (seen : T → V) (value : Result V ConversionErrorKind)
    (result : Result T ConversionErrorKind) : Type 0 where
  pub ok : IfOk result (λ answer. value ≡ Ok (seen answer))
  pub unescape : (fault : EscapeError) → result ≡ Err (FailedToUnescape fault) → value ≡ Err (FailedToUnescape fault)
  pub kind : (result ≡ Err InvalidLiteralKind) ↔ (value ≡ Err InvalidLiteralKind)

-- the characters of a string
abbrev pub text_of : {A : Type 0} → String A → List ℕ
text_of string = chars (string_bytes string)

-- the bytes of a vector
abbrev pub bytes_of : {A : Type 0} → Vec ℕ A → List ℕ
bytes_of vector = vector.items

-- `string-value`: the characters of a string literal's value, or the error
abbrev pub str_value : List ℕ → Result (List ℕ) ConversionErrorKind
str_value text =
    value_from (option_map (units string_kind) (cooked_content (codes "\"") text)) (raw_content (codes "r") text)

-- `byte-string-value`: the bytes of a byte string literal's value, or the error
abbrev pub byte_str_value : List ℕ → Result (List ℕ) ConversionErrorKind
byte_str_value text =
    value_from (option_map (units byte_kind) (cooked_content (codes "b\"") text))
    (option_map encode_utf8_all (raw_content (codes "br") text))

-- the bytes of a unit of a C string
abbrev pub unit_bytes : MixedUnit → List ℕ
unit_bytes (Char c) = encode_utf8 c
unit_bytes (HighByte byte) = byte ∷ []

-- the bytes, and a zero byte after them
abbrev pub with_zero : List ℕ → List ℕ
with_zero bytes = bytes ++ 0 ∷ []

-- the bytes of a C string's units and a zero byte, or the error
abbrev pub c_bytes : Result (List MixedUnit) EscapeError → Result (List ℕ) EscapeError
c_bytes (Ok units) = Ok (with_zero (flat_map unit_bytes units))
c_bytes (Err fault) = Err fault

-- `c-string-value`: the bytes of a C string literal's value, the last of them zero, or the error
abbrev pub cstr_value : List ℕ → Result (List ℕ) ConversionErrorKind
cstr_value text =
    value_from (option_map (λ content. c_bytes (units c_kind content)) (cooked_content (codes "c\"") text))
    (option_map (λ content. with_zero (encode_utf8_all content)) (raw_content (codes "cr") text))
