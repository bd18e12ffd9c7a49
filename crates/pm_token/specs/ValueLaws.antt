-- Laws of the values of literals.
use Rattle.std.specs.Prelude.{Bool, not, ◌==◌, ◌≡◌, ◌<◌, ℕ, List, [], ◌++◌, codes, IsTrue, Result, Ok}
use Rattle.std.specs.Char.{IsScalar}
use Rattle.std.specs.List.{AllByRecursion, list_all}
use Rattle.std.specs.Str.{encode_utf8_all}
use Rattle.lexical.specs.Form.{Form, Many}
use Rattle.lexical.specs.Quoted.{ByteStr, ByteUnit, CStr, CUnit, Str, StringUnit, Suffix}
use Rattle.lexical.specs.SingleQuoted.{Byte, Character}
use Rattle.literal_escaper.specs.Character.{carriage_return}
use Rattle.literal_escaper.specs.Kind.{Kind, byte_kind, string_kind}
use Rattle.literal_escaper.specs.Single.{single}
use Rattle.pm_token.specs.declared.literals.conversion.ConversionErrorKind.{ConversionErrorKind}
use Rattle.pm_token.specs.CString.{IsCStringText, has_no_zero}
use Rattle.pm_token.specs.Content.{is_hash}
use Rattle.pm_token.specs.Escaped.{byte_string_text, byte_text, character_text, string_text}
use Rattle.pm_token.specs.Joined.{c_joined, string_joined}
use Rattle.pm_token.specs.SingleValue.{byte_value, char_value}
use Rattle.pm_token.specs.Text.{IsText}
use Rattle.pm_token.specs.Value.{byte_str_value, cstr_value, with_zero, str_value}

-- the value of the string literal of a text is the text
abbrev pub StringsComeBack : Type 0
StringsComeBack = (text : List ℕ) → IsText text → str_value (string_text text) ≡ Ok text

-- the value of the byte string literal of some bytes is these bytes
abbrev pub ByteStringsComeBack : Type 0
ByteStringsComeBack = (bytes : List ℕ) → AllByRecursion (λ b. b < 256) bytes
    → byte_str_value (byte_string_text bytes) ≡ Ok bytes

-- the value of the C string literal of some bytes, none of them zero, is these bytes and a zero byte
abbrev pub CStringsComeBack : Type 0
CStringsComeBack = (bytes text : List ℕ) → AllByRecursion (λ b. b < 256) bytes → IsTrue (has_no_zero bytes)
    → IsCStringText bytes text → cstr_value text ≡ Ok (with_zero bytes)

-- the text between the quotes of a character's literal is one unit, which is the character
abbrev pub CharactersComeBack : Type 0
CharactersComeBack = (c : ℕ) → IsScalar c
    → (content : List ℕ)
    × (character_text c ≡ codes "'" ++ (content ++ codes "'")) × ((single string_kind content).unit ≡ Ok c)

-- the text between the quotes of a byte's literal is one unit, which is the byte
abbrev pub BytesComeBack : Type 0
BytesComeBack = (b : ℕ) → b < 256
    → (content : List ℕ) × (byte_text b ≡ codes "b'" ++ (content ++ codes "'"))
    × ((single byte_kind content).unit ≡ Ok b)

-- whether the text between the quotes is one unit, which is the literal's value if no suffix follows
pub record HasSingle (kind : Kind ℕ) (front text : List ℕ) (value : Result ℕ ConversionErrorKind) : Type 0 where
  pub content : List ℕ
  pub suffix : List ℕ
  pub unit : ℕ
  pub whole : text ≡ front ++ (content ++ (codes "'" ++ suffix))
  pub is_suffix : Suffix suffix []
  pub unit_is : (single kind content).unit ≡ Ok unit
  pub value_is : suffix ≡ [] → value ≡ Ok unit

-- the text between the quotes of a character literal is one unit, which is its value if no suffix follows
abbrev pub CharactersHaveUnits : Type 0
CharactersHaveUnits = (text : List ℕ) → Character text [] → HasSingle string_kind (codes "'") text (char_value text)

-- the text between the quotes of a byte literal is one unit, which is its value if no suffix follows
abbrev pub BytesHaveUnits : Type 0
BytesHaveUnits = (text : List ℕ) → Byte text [] → HasSingle byte_kind (codes "b'") text (byte_value text)

-- the value of the literal of a character is the character
abbrev pub CharacterValuesComeBack : Type 0
CharacterValuesComeBack = (c : ℕ) → IsScalar c → char_value (character_text c) ≡ Ok c

-- the value of the literal of a byte is the byte
abbrev pub ByteValuesComeBack : Type 0
ByteValuesComeBack = (b : ℕ) → b < 256 → byte_value (byte_text b) ≡ Ok b

-- the text of a raw literal without a suffix: its prefix, hash signs, and its body between quotes
abbrev pub raw_text : List ℕ → List ℕ → List ℕ → List ℕ
raw_text front signs body = front ++ ((signs ++ codes "\"") ++ (body ++ (codes "\"" ++ signs)))

-- the value of a raw string is its body
abbrev pub RawStringsHaveBodies : Type 0
RawStringsHaveBodies = (signs body : List ℕ) → IsTrue (list_all is_hash signs)
    → str_value (raw_text (codes "r") signs body) ≡ Ok body

-- the value of a raw byte string is the bytes of its body
abbrev pub RawByteStringsHaveBodies : Type 0
RawByteStringsHaveBodies = (signs body : List ℕ) → IsTrue (list_all is_hash signs)
    → byte_str_value (raw_text (codes "br") signs body) ≡ Ok (encode_utf8_all body)

-- the value of a raw C string is the bytes of its body and a zero byte
abbrev pub RawCStringsHaveBodies : Type 0
RawCStringsHaveBodies = (signs body : List ℕ) → IsTrue (list_all is_hash signs)
    → cstr_value (raw_text (codes "cr") signs body) ≡ Ok (with_zero (encode_utf8_all body))

-- whether the text has no CR
abbrev pub has_no_return : List ℕ → Bool
has_no_return text = list_all (λ c. not (c == carriage_return)) text

-- the text of a literal with escapes and without a suffix
abbrev pub cooked_text : List ℕ → List ℕ → List ℕ
cooked_text front content = front ++ (content ++ codes "\"")

-- whether the content is made of units of this form, and the value is what they give together
pub record IsJoined (Unit : Form) (joined : List (List ℕ) → List ℕ) (content : List ℕ)
    (value : Result (List ℕ) ConversionErrorKind) : Type 0 where
  -- the content is made of units, up to a quote
  pub units : Many Unit content (codes "\"")
  -- however the content is divided into units, they give the value
  pub value_is : (body : Many Unit content (codes "\"")) → value ≡ Ok (joined body.units)

-- the value of a string without CR is what its units give together
abbrev pub StringsHaveValues : Type 0
StringsHaveValues = (content : List ℕ) → Str (cooked_text (codes "\"") content) [] → IsTrue (has_no_return content)
    → IsJoined StringUnit string_joined content (str_value (cooked_text (codes "\"") content))

-- the value of a byte string without CR is what its units give together
abbrev pub ByteStringsHaveValues : Type 0
ByteStringsHaveValues =
    (content : List ℕ) → ByteStr (cooked_text (codes "b\"") content) [] → IsTrue (has_no_return content)
    → IsJoined ByteUnit string_joined content (byte_str_value (cooked_text (codes "b\"") content))

-- the value of a C string without CR is what its units give together, and a zero byte
abbrev pub CStringsHaveValues : Type 0
CStringsHaveValues = (content : List ℕ) → CStr (cooked_text (codes "c\"") content) [] → IsTrue (has_no_return content)
    → IsJoined CUnit (λ units. with_zero (c_joined units)) content (cstr_value (cooked_text (codes "c\"") content))
