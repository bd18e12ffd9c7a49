-- Raw strings, which have no escapes.
use Rattle.std.specs.Prelude.{ℕ, Bool, true, not, ◌&&◌, ◌||◌, ◌==◌, List, [], ◌∷◌, codes, nat_le, length}
use Rattle.std.specs.Char.{is_ascii}
use Rattle.lexical.specs.Character.{carriage_return, double_quote, hash_sign}
use Rattle.lexical.specs.Form.{Form}
use Rattle.lexical.specs.Rule.{Rule, One, Run, Exactly, Then, Next, Either, NotAt, Where, Stands}
use Rattle.lexical.specs.Quoted.{newline, body}
use Rattle.lexical.specs.declared.quoted.StringKind.{StringKind}
use Rattle.lexical.specs.declared.quoted.StringKind.TheVariants.{Plain, Byte, C}

-- `raw-hashes`: all hash signs there, at most 255
abbrev pub hashes : Rule
hashes = Where (λ hashes. nat_le (length hashes) 255) (Run (λ c. c == hash_sign))

-- `raw-unit`: a character that is allowed, or CR LF, if the text that closes the string does not begin there
abbrev pub raw_unit : (ℕ → Bool) → List ℕ → Rule
raw_unit allowed close = NotAt (close ∷ []) (Either (One (λ c. allowed c && not (c == carriage_return))) newline)

-- the part of a raw string after its hash signs: a quote, and units up to the first quote with those hash signs after
-- it
abbrev pub raw_quotes : (ℕ → Bool) → List ℕ → Rule
raw_quotes allowed hashes =
    Then (Exactly (codes "\"")) (body (raw_unit allowed (double_quote ∷ hashes)) (double_quote ∷ hashes))

-- a raw string: the prefix that opens it, hash signs, and the quotes with the text between them
abbrev pub raw : List ℕ → (ℕ → Bool) → Rule
raw front allowed = Then (Exactly front) (Next hashes (raw_quotes allowed))

-- whether a raw string of the kind may contain the character. A CR must also have an LF after it
abbrev pub may_stand_raw : StringKind → ℕ → Bool
may_stand_raw Plain c = true
may_stand_raw Byte c = is_ascii c
may_stand_raw C c = not (c == 0)

-- whether a raw string of the kind may contain the character, and it is neither a quote nor CR
abbrev pub is_raw_plain : StringKind → ℕ → Bool
is_raw_plain kind c = may_stand_raw kind c && not ((c == double_quote) || (c == carriage_return))

-- the prefix that opens a raw string of the kind
abbrev pub raw_front : StringKind → List ℕ
raw_front Plain = codes "r"
raw_front Byte = codes "br"
raw_front C = codes "cr"

-- `raw-string`, `raw-byte-string`, `raw-c-string`: a raw string of the kind, with at most 255 hash signs
abbrev pub raw_string : StringKind → Rule
raw_string kind = raw (raw_front kind) (may_stand_raw kind)

-- ---- the forms of these rules

-- a raw string, for any opening prefix and any test of characters
abbrev pub Raw : List ℕ → (ℕ → Bool) → Form
Raw front allowed = Stands (raw front allowed)

-- a piece of the rule `raw-string`
abbrev pub RawStr : Form
RawStr = Stands (raw_string Plain)

-- a piece of the rule `raw-byte-string`
abbrev pub RawByteStr : Form
RawByteStr = Stands (raw_string Byte)

-- a piece of the rule `raw-c-string`
abbrev pub RawCStr : Form
RawCStr = Stands (raw_string C)
