-- The text that the constructor of C strings writes.
use Rattle.std.specs.Prelude.{ℕ, Bool, not, ◌==◌, ◌≡◌, ◌<◌, List, [], ◌∷◌, ◌++◌, length, codes, encode_utf8}
use Rattle.std.specs.Char.{IsScalar}
use Rattle.std.specs.List.{list_all}
use Rattle.literal_escaper.specs.Character.{double_quote}
use Rattle.pm_token.specs.Escaped.{hex_pair, char_text, written_char}

-- a part of a C string's bytes: a character, or a byte that begins no character
pub data Part : Type 0 where
  Char : ℕ → Part
  Byte : ℕ → Part

-- whether the bytes do not begin with the UTF-8 of a character
abbrev pub BeginsNone : List ℕ → Type 0
BeginsNone bytes = (c : ℕ) (rest : List ℕ) → IsScalar c → bytes ≡ encode_utf8 c ++ rest → ⊥

-- `c-string-parts`: whether the bytes are these parts, read from the left
abbrev pub AreParts : List Part → List ℕ → Type 0
AreParts [] bytes = bytes ≡ []
AreParts (Char c ∷ parts) bytes = IsScalar c × (rest : List ℕ) × (bytes ≡ encode_utf8 c ++ rest) × AreParts parts rest
AreParts (Byte b ∷ parts) bytes = BeginsNone bytes × (rest : List ℕ) × (bytes ≡ b ∷ rest) × AreParts parts rest

-- how a part is written: a character as in a string, and a byte as its number
abbrev pub part_text : Part → List ℕ
part_text (Char c) = char_text double_quote written_char c []
part_text (Byte b) = codes "\\x" ++ hex_pair b

abbrev pub parts_text : List Part → List ℕ
parts_text [] = []
parts_text (part ∷ parts) = part_text part ++ parts_text parts

-- whether no byte is zero
abbrev pub has_no_zero : List ℕ → Bool
has_no_zero bytes = list_all (λ b. not (b == 0)) bytes

-- `c-string-text`: whether the text is the C string literal of the bytes
pub record IsCStringText (bytes text : List ℕ) : Type 0 where
  pub parts : List Part
  pub reads : AreParts parts bytes
  pub whole : text ≡ codes "c\"" ++ (parts_text parts ++ codes "\"")

-- whether `new` is `old` with some first parts of the bytes written after it, and `rest` are the other bytes
pub record WritesFront (bytes rest old new : List ℕ) : Type 0 where
  pub parts : List Part
  pub reads : (more : List Part) → AreParts more rest
      → (whole : List Part) × AreParts whole bytes × (parts_text whole ≡ parts_text parts ++ parts_text more)
  pub text : new ≡ old ++ parts_text parts
  pub shorter : length rest < length bytes
