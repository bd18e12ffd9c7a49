-- The values of character and byte literals.
use Rattle.std.specs.Prelude.{ℕ, List, [], codes, IsTrue, Option, Some, None, Result, Ok, Err}
use Rattle.std.specs.Option.{option_map}
use Rattle.lexical.specs.Form.{Form}
use Rattle.lexical.specs.Text.{ends_with}
use Rattle.literal_escaper.specs.declared.errors.EscapeError.{EscapeError}
use Rattle.literal_escaper.specs.Character.{quote as single_quote}
use Rattle.literal_escaper.specs.Kind.{Kind, byte_kind, string_kind}
use Rattle.literal_escaper.specs.Single.{single}
use Rattle.pm_token.specs.declared.literals.conversion.ConversionErrorKind.{ConversionErrorKind}
use Rattle.pm_token.specs.declared.literals.conversion.ConversionErrorKind.TheVariants.{FailedToUnescape}
use Rattle.pm_token.specs.declared.literals.conversion.ConversionErrorKind.TheVariants.{InvalidLiteralKind}
use Rattle.pm_token.specs.Content.{between}

-- `single-content`: the text after this prefix and before a `'` at the end
abbrev pub single_content : List ℕ → List ℕ → Option (List ℕ)
single_content front text = between front (codes "'") text

-- the value from the unit of a content, or from its error, or from no content
abbrev pub value_from_single : Option (Result ℕ EscapeError) → Result ℕ ConversionErrorKind
value_from_single None = Err InvalidLiteralKind
value_from_single (Some (Ok unit)) = Ok unit
value_from_single (Some (Err fault)) = Err (FailedToUnescape fault)

-- `single-value`: the value of a literal that has this prefix
abbrev pub single_value : Kind ℕ → List ℕ → List ℕ → Result ℕ ConversionErrorKind
single_value kind front text =
    value_from_single (option_map (λ content. (single kind content).unit) (single_content front text))

-- `character-value`: the character that is the value of a character literal, or the error
abbrev pub char_value : List ℕ → Result ℕ ConversionErrorKind
char_value text = single_value string_kind (codes "'") text

-- `byte-value`: the byte that is the value of a byte literal, or the error
abbrev pub byte_value : List ℕ → Result ℕ ConversionErrorKind
byte_value text = single_value byte_kind (codes "b'") text

-- whether the text is a literal of this form without a suffix, so that its closing quote is at the end
abbrev pub IsUnsuffixed : Form → List ℕ → Type 0
IsUnsuffixed Quoted text = Quoted text [] × IsTrue (ends_with single_quote text)
