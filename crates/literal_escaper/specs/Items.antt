-- The items of a content. `end` counts the bytes of the whole content. A position in it is known by the text after it.
use Rattle.std.specs.Prelude.{ℕ, zero, suc, ◌-◌, ◌&&◌, ◌==◌, if◌then◌else◌, List, [], ◌∷◌, ◌++◌, drop, length, Option}
use Rattle.std.specs.Prelude.{Some, None, Result, Err}
use Rattle.std.specs.Char.{is_whitespace}
use Rattle.std.specs.List.{list_any}
use Rattle.std.specs.declared.ops.Range.{Range}
use Rattle.literal_escaper.specs.declared.errors.EscapeError.{EscapeError}
use Rattle.literal_escaper.specs.declared.errors.EscapeError.TheVariants.{BareCarriageReturn}
use Rattle.literal_escaper.specs.declared.errors.EscapeError.TheVariants.{BareCarriageReturnInRawString, EscapeOnlyChar}
use Rattle.literal_escaper.specs.declared.errors.EscapeError.TheVariants.{MultipleSkippedLinesWarning}
use Rattle.literal_escaper.specs.declared.errors.EscapeError.TheVariants.{UnskippedWhitespaceWarning}
use Rattle.literal_escaper.specs.Character.{backslash, carriage_return, double_quote, is_blank, line_feed}
use Rattle.literal_escaper.specs.Escape.{Read, escape}
use Rattle.literal_escaper.specs.Kind.{Kind}
use Rattle.literal_escaper.specs.Text.{bytes, first_is, while_front, while_rest}

-- a range of bytes, and the unit or the error there
abbrev pub Item : Type 0 → Type 0
Item U = Range ℕ × Result U EscapeError

-- the byte offset in a content of this size where `rest` is left
abbrev pub byte_offset : ℕ → List ℕ → ℕ
byte_offset end rest = end - bytes rest

-- the range of bytes from the start of one text to the start of a later one
abbrev pub between : ℕ → List ℕ → List ℕ → Range ℕ
between end text rest = record { start = byte_offset end text; end = byte_offset end rest }

-- what one step at the start of a text reads, and the text after it
pub record Front (U : Type 0) : Type 0 where
  -- the items that are read: none, one, or one and a warning
  pub items : List (Item U)
  pub rest : List ℕ

-- ---- contents with escapes

-- `item-plain`: the unit of a character that is no escape, or an error
abbrev pub plain : {U : Type 0} → Kind U → ℕ → Result U EscapeError
plain kind c =
    if c == double_quote then Err EscapeOnlyChar
    else if c == carriage_return then Err BareCarriageReturn
    else kind.of_char c

-- reads the unit of a character or of the escape that it begins
abbrev pub unit_front : {U : Type 0} → Kind U → ℕ → List ℕ → Read U
unit_front kind c text = if c == backslash then escape kind text else record { unit = plain kind c; rest = text }

-- makes one item of what was read at the start of the text
abbrev pub one_item : {U : Type 0} → ℕ → List ℕ → Read U → Front U
one_item end text read = record { items = (between end text read.rest, read.unit) ∷ []; rest = read.rest }

-- `skipped-lines`: the range of everything that is skipped, if more than one line end is
abbrev pub lines_range : ℕ → List ℕ → List ℕ → List ℕ → Option (Range ℕ)
lines_range end text blanks rest =
    if list_any (λ c. c == line_feed) blanks then Some (between end text rest) else None

-- `unskipped-white`: the range of everything that is skipped and the next character, if that is a white one
abbrev pub white_range : ℕ → List ℕ → List ℕ → Option (Range ℕ)
white_range end text [] = None
white_range end text (c ∷ rest) = if is_whitespace c then Some (between end text rest) else None

-- the item of a warning if there is a range for it, and otherwise no item
abbrev pub warning_at : {U : Type 0} → EscapeError → Option (Range ℕ) → List (Item U)
warning_at e None = []
warning_at e (Some range) = (range, Err e) ∷ []

-- `line-skip`: skips a backslash and LF at the start of the text, and the blanks after them. They have no unit
unfoldable pub line_skip : {U : Type 0} → ℕ → List ℕ → List ℕ → Front U
line_skip end text line =
    let rest = while_rest is_blank line in record {
      items = warning_at MultipleSkippedLinesWarning (lines_range end text (while_front is_blank line) rest)
          ++ warning_at UnskippedWhitespaceWarning (white_range end text rest);
      rest = rest;
    }

-- reads one step at the start of the text: a backslash with LF and the blanks after them, an escape, or one character
unfoldable pub front : {U : Type 0} → Kind U → ℕ → List ℕ → Front U
front kind end [] = record { items = []; rest = [] }
front kind end (c ∷ text) =
    if (c == backslash) && first_is line_feed text then line_skip end (c ∷ text) (drop 1 text)
    else one_item end (c ∷ text) (unit_front kind c text)

-- the items of a text that n steps read
unfoldable pub items_within : {U : Type 0} → Kind U → ℕ → ℕ → List ℕ → List (Item U)
items_within kind end zero text = []
items_within kind end (suc n) text =
    (front kind end text).items ++ items_within kind end n (front kind end text).rest

-- the items from this text to the end of the content
abbrev pub items_from : {U : Type 0} → Kind U → ℕ → List ℕ → List (Item U)
items_from kind end text = items_within kind end (length text) text

-- `items`: the items of a content with escapes
abbrev pub items : {U : Type 0} → Kind U → List ℕ → List (Item U)
items kind text = items_from kind (bytes text) text

-- ---- raw contents

-- the unit of a character of a raw content, or an error
abbrev pub raw_unit : {U : Type 0} → (ℕ → Result U EscapeError) → ℕ → Result U EscapeError
raw_unit of_char c = if c == carriage_return then Err BareCarriageReturnInRawString else of_char c

-- the items of a raw content from this text on, one for each character
unfoldable pub raw_items_from : {U : Type 0} → (ℕ → Result U EscapeError) → ℕ → List ℕ → List (Item U)
raw_items_from of_char end [] = []
raw_items_from of_char end (c ∷ text) =
    (between end (c ∷ text) text, raw_unit of_char c) ∷ raw_items_from of_char end text

-- `raw-items`: the items of a raw content
abbrev pub raw_items : {U : Type 0} → (ℕ → Result U EscapeError) → List ℕ → List (Item U)
raw_items of_char text = raw_items_from of_char (bytes text) text
