-- Pieces that a few bytes decide.
use Rattle.std.specs.Prelude.{ℕ, ◌≤◌, Bool, false, not, ◌||◌, ◌==◌, cond, List, ◌++◌, IsTrue, IsFalse, length, nat_lt}
use Rattle.std.specs.Prelude.{Some, take, drop, codes}
use Rattle.std.specs.Char.{is_ascii_hexdigit}
use Rattle.std.specs.List.{list_all}
use Rattle.std.specs.Str.{chars}
use Rattle.memchr.specs.Find.{IsFirstByte, is_byte3}
use Rattle.lexical.specs.Ascii.{all_ascii}
use Rattle.lexical.specs.Character.{backslash, carriage_return, double_quote, line_feed}
use Rattle.lexical.specs.Form.{Form, Then}
use Rattle.lexical.specs.Found.{IsPieceAt}
use Rattle.lexical.specs.Identifier.{Identifier}
use Rattle.lexical.specs.Mark.{bars_quote}
use Rattle.lexical.specs.Number.{end, is_exponent_letter}
use Rattle.lexical.specs.PieceFinder.{piece_start}
use Rattle.lexical.specs.Quoted.{close, escape, is_octal_digit}
use Rattle.lexical.specs.RawString.{may_stand_raw}
use Rattle.lexical.specs.Rule.{Stands}
use Rattle.lexical.specs.SingleQuoted.{is_plain, unit}
use Rattle.lexical.specs.Text.{first_passes}
use Rattle.lexical.specs.declared.piece.PieceKind.TheVariants as kinds
use Rattle.lexical.specs.declared.fast_path.Extent.{Extent}
use Rattle.lexical.specs.declared.quoted.StringKind.{StringKind}
use Rattle.lexical.specs.declared.quoted.StringKind.TheVariants as strings
use Rattle.lexical.specs.declared.class.PieceStart.{PieceStart}
use Rattle.lexical.specs.declared.class.PieceStart.TheVariants as starts

-- what the first byte of a text says about the piece there. It says nothing if it is past ASCII
abbrev pub byte_starts : ℕ → PieceStart
byte_starts byte = cond (nat_lt byte 128) (piece_start byte) starts.Other

-- whether the first `size` bytes of the text are ASCII and a piece of the form
pub record IsAsciiAt (A : Form) (text : List ℕ) (size : ℕ) : Type 0 where
  pub within : size ≤ length text
  pub ascii : IsTrue (all_ascii (take size text))
  pub stands : A (take size text) (chars (drop size text))

-- a plain identifier that may follow a `'`
abbrev pub UnbarredName : Form
UnbarredName p r = Identifier false p r × IsFalse (first_passes (bars_quote false) r)

-- whether the character is neither LF nor CR
abbrev pub is_line_plain : ℕ → Bool
is_line_plain c = not ((c == line_feed) || (c == carriage_return))

-- the rest of a line without the LF that ends it, if it has no CR
abbrev pub Line : Form
Line p r = IsTrue (list_all is_line_plain p) × IsFalse (first_passes (λ c. not (c == line_feed)) r)

-- the end of a number, if it does not begin like an exponent
abbrev pub NumberEnd : Form
NumberEnd p r = Stands end p r × IsFalse (first_passes is_exponent_letter (p ++ r))

-- a text that is a piece of the form whatever follows it
abbrev pub Anywhere : Form → Form
Anywhere A p r = (rest : List ℕ) → A p rest

-- whether the character may be the first digit after `\x`. It is false for C strings, where the second digit counts too
abbrev pub pair_front : StringKind → ℕ → Bool
pair_front strings.Plain = is_octal_digit
pair_front strings.Byte = is_ascii_hexdigit
pair_front strings.C = λ c. false

-- the part of a literal between single quotes after the first quote
abbrev pub Single : StringKind → Form
Single kind = Then (Stands (unit (is_plain kind) (escape kind))) (Stands (close (codes "'")))

-- whether `size` bytes come before the first quote, backslash or CR, and a string of the kind may contain their
-- characters
pub record IsStretch (kind : StringKind) (bytes : List ℕ) (size : ℕ) : Type 0 where
  pub first : IsFirstByte (is_byte3 double_quote backslash carriage_return) bytes (Some size)
  pub may : IsTrue (list_all (may_stand_raw kind) (chars (take size bytes)))

-- whether a literal of this extent is at the start of the text, at any byte offset of a source
abbrev pub IsLiteralAt : List ℕ → Extent → Type 0
IsLiteralAt text extent =
    (first : Bool)
    → IsPieceAt first text (record { kind = kinds.Literal; bytes = extent.bytes; chars = extent.chars })
