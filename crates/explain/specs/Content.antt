-- The first error in a doc comment or a literal that is closed. `f`, `p` and `r` are as in `Reason.antt`: the text
-- before the wrong part, the wrong part, and the text after it.
use Rattle.std.specs.Prelude.{ℕ, Bool, true, false, ◌≡◌, ◌⊎◌, List, [], ◌∷◌, ◌++◌, codes, length, IsFalse, Result, Err}
use Rattle.lexical.specs.Character.{carriage_return, double_quote}
use Rattle.lexical.specs.Comment.{Comment, closing, has_bare_return, is_doc}
use Rattle.lexical.specs.Form.{HasNone, Where}
use Rattle.lexical.specs.Quoted.{unit, front as string_front}
use Rattle.lexical.specs.RawString.{hashes, may_stand_raw, raw_front}
use Rattle.lexical.specs.RawString as raw_strings
use Rattle.lexical.specs.Rule.{Rule, Exactly, Then, Next, UpTo, Stands, nothing}
use Rattle.lexical.specs.Text.{begins_any, begins_with}
use Rattle.lexical.specs.declared.quoted.StringKind.{StringKind}
use Rattle.lexical.specs.declared.quoted.StringKind.TheVariants.{Plain, Byte, C}
use Rattle.literal_escaper.specs.Escape.{fault}
use Rattle.literal_escaper.specs.Items.{raw_unit, unit_front}
use Rattle.literal_escaper.specs.Kind.{Kind, any_char, ascii_byte, byte_kind, c_kind, string_kind}
use Rattle.literal_escaper.specs.Single.{single}
use Rattle.literal_escaper.specs.Units.{raw_c_char}
use Rattle.literal_escaper.specs.declared.errors.EscapeError.{EscapeError}
use Rattle.literal_escaper.specs.declared.errors.EscapeError.TheVariants as errors
use Rattle.explain.specs.Shapes.{closed_character, closed_raw, closed_string, single_front}
use Rattle.explain.specs.declared.quotes.SingleKind.{SingleKind}
use Rattle.explain.specs.declared.quotes.SingleKind.TheVariants.{Character, Byte as SingleByte}

-- ---- doc comments

-- a doc comment begins at the fault, and the wrong part is the first CR in its text that no LF follows
pub record IsBareReturn (f p r : List ℕ) : Type 0 where
  pub comment : List ℕ
  pub after : List ℕ
  pub whole : f ++ (p ++ r) ≡ comment ++ after
  pub stands : Where is_doc Comment comment after
  -- the three characters that open the comment, its text before the CR, and its text after the CR
  pub opening : List ℕ
  pub before : List ℕ
  pub more : List ℕ
  pub three : length opening ≡ 3
  pub text : comment ≡ opening ++ ((before ++ (p ++ more)) ++ closing comment after)
  pub place : f ≡ opening ++ before
  pub return : p ≡ carriage_return ∷ []
  pub bare : IsFalse (begins_with (codes "\n") more)
  pub first : IsFalse (has_bare_return before)

-- ---- what the escaper reads

-- whether the error is about the last character that the escaper read, and not about the whole escape
abbrev pub is_of_last : EscapeError → Bool
is_of_last errors.InvalidEscape = true
is_of_last errors.InvalidCharInHexEscape = true
is_of_last errors.InvalidCharInUnicodeEscape = true
is_of_last errors.LeadingUnderscoreUnicodeEscape = true
is_of_last _ = false

-- `part` is the wrong part of what the escaper read, and `start` comes before it. If true, the last character is wrong,
-- and otherwise all
abbrev pub IsPart : Bool → List ℕ → List ℕ → Type 0
IsPart true start part = (c : ℕ) × (part ≡ c ∷ [])
IsPart false start part = start ≡ []

-- for this error, `part` is the wrong part of what the escaper read, and `start` comes before it
abbrev pub IsAtFault : EscapeError → List ℕ → List ℕ → Type 0
IsAtFault e start part = IsPart (is_of_last e) start part

-- ---- strings with escapes

-- what opens a string, and then any number of its units
abbrev pub string_units : StringKind → Rule
string_units kind = Then (Exactly (string_front kind)) (UpTo (unit kind) nothing)

-- units that the escaper reads in another way than the grammar: CR LF, and a backslash with a line end
abbrev pub line_ends : List (List ℕ)
line_ends = codes "\r\n" ∷ codes "\\\n" ∷ codes "\\\r\n" ∷ []

-- the escaper reads this error at the start of the content, and `left` is the content after that
abbrev pub GivesFault : {U : Type 0} → Kind U → EscapeError → List ℕ → List ℕ → Type 0
GivesFault kind e [] left = ⊥
GivesFault kind e (c ∷ text) left = unit_front kind c text ≡ fault e left

-- in a string of this kind, the escaper reads this error at the start of the content, and `left` is the content after
-- that
abbrev pub StringFault : StringKind → EscapeError → List ℕ → List ℕ → Type 0
StringFault Plain = GivesFault string_kind
StringFault Byte = GivesFault byte_kind
StringFault C = GivesFault c_kind

-- a string that is closed begins at the fault, and its content has this error after some units
pub record IsBadString (kind : StringKind) (e : EscapeError) (f p r : List ℕ) : Type 0 where
  pub units : List ℕ
  pub start : List ℕ
  pub left : List ℕ
  pub tail : List ℕ
  pub front : f ≡ units ++ start
  pub stands : Stands (string_units kind) units (start ++ (p ++ r))
  pub back : r ≡ left ++ (codes "\"" ++ tail)
  pub closed : Stands (closed_string kind) (f ++ (p ++ (left ++ codes "\""))) tail
  pub apart : IsFalse (begins_any line_ends (start ++ (p ++ r)))
  pub gives : StringFault kind e ((start ++ p) ++ left) left
  pub part : IsAtFault e start p

-- ---- raw strings

-- the letters, hash signs and quote that open a raw string, and then any number of its units
abbrev pub raw_units : StringKind → Rule
raw_units kind =
    Then (Exactly (raw_front kind)) (Next hashes (λ signs. Then (Exactly (codes "\""))
    (UpTo (raw_strings.raw_unit (may_stand_raw kind) (double_quote ∷ signs)) nothing)))

-- what the escaper reads for a character of a raw string
abbrev pub raw_character : StringKind → ℕ → Result ℕ EscapeError
raw_character Plain = raw_unit any_char
raw_character Byte = raw_unit ascii_byte
raw_character C = raw_unit raw_c_char

-- a raw string that is closed begins at the fault, and its content has this error after some units
pub record IsBadRaw (kind : StringKind) (e : EscapeError) (f p r : List ℕ) : Type 0 where
  pub character : ℕ
  pub stands : Stands (raw_units kind) f (p ++ r)
  pub closed : HasNone (Stands (closed_raw kind)) (f ++ (p ++ r)) → ⊥
  pub one : p ≡ character ∷ []
  pub apart : IsFalse (begins_with (codes "\r\n") (p ++ r))
  pub gives : raw_character kind character ≡ Err e

-- ---- characters and bytes

-- the escaper reads this error in the content, and `left` is the content after that
abbrev pub SingleFault : SingleKind → EscapeError → List ℕ → List ℕ → Type 0
SingleFault Character e content left = single string_kind content ≡ fault e left
SingleFault SingleByte e content left = single byte_kind content ≡ fault e left

-- whether the whole literal is wrong
abbrev pub is_of_literal : EscapeError → Bool
is_of_literal errors.ZeroChars = true
is_of_literal errors.MoreThanOneChar = true
is_of_literal _ = false

-- `p` is the wrong part of a literal with this front and content, and `f` comes before it. If true, the whole literal
-- is wrong
abbrev pub IsSinglePlace : Bool → EscapeError → List ℕ → List ℕ → List ℕ → List ℕ → List ℕ → Type 0
IsSinglePlace true e front content left f p = (f ≡ []) × (p ≡ front ++ (content ++ codes "'"))
IsSinglePlace false e front content left f p =
    (start : List ℕ) × (f ≡ front ++ start) × (content ≡ (start ++ p) ++ left) × IsAtFault e start p

-- a character or byte literal that is closed begins at the fault, and its content has this error
pub record IsBadSingle (kind : SingleKind) (e : EscapeError) (f p r : List ℕ) : Type 0 where
  pub content : List ℕ
  pub left : List ℕ
  pub tail : List ℕ
  pub whole : f ++ (p ++ r) ≡ (single_front kind ++ (content ++ codes "'")) ++ tail
  pub closed : Stands closed_character (single_front kind ++ (content ++ codes "'")) tail
  pub gives : SingleFault kind e content left
  pub place : IsSinglePlace (is_of_literal e) e (single_front kind) content left f p

-- ---- all of them

-- a literal that is closed begins at the fault, and the first error in its content is this
abbrev pub IsBadContent : EscapeError → List ℕ → List ℕ → List ℕ → Type 0
IsBadContent e f p r =
    ((kind : StringKind) × IsBadString kind e f p r)
    ⊎ (((kind : StringKind) × IsBadRaw kind e f p r) ⊎ ((kind : SingleKind) × IsBadSingle kind e f p r))
