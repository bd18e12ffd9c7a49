-- What the functions of the reader return, in terms of the rules.
use Rattle.std.specs.Prelude.{◌≡◌, ℕ, ◌+◌, ◌*◌, ◌==◌, Bool, List, [], ◌∷◌, ◌++◌, Option, Some, None, Result, Err}
use Rattle.std.specs.Prelude.{if◌then◌else◌, nat_lt, nat_le}
use Rattle.std.specs.Char.{digit_value}
use Rattle.std.specs.List.{fold, list_any}
use Rattle.std.specs.Str.{chars}
use Rattle.std.specs.declared.ops.Range.{Range}
use Rattle.literal_escaper.specs.declared.errors.EscapeError.{EscapeError}
use Rattle.literal_escaper.specs.declared.errors.EscapeError.TheVariants.{OverlongUnicodeEscape}
use Rattle.literal_escaper.specs.declared.errors.EscapeError.TheVariants.{UnskippedWhitespaceWarning}
use Rattle.literal_escaper.specs.declared.cooked.Cooked.{Cooked}
use Rattle.literal_escaper.specs.declared.content_cursor.ContentCursor.{ContentCursor}
use Rattle.literal_escaper.specs.Character.{is_blank, line_feed}
use Rattle.literal_escaper.specs.Escape.{Read, is_code_character, is_hex}
use Rattle.literal_escaper.specs.Items as Items
use Rattle.literal_escaper.specs.Items.{Item, items_from, warning_at, raw_items_from}
use Rattle.literal_escaper.specs.Kind.{Kind, character}
use Rattle.literal_escaper.specs.Text.{while_front}

-- the text after a cursor
abbrev pub text_at : ContentCursor → List ℕ
text_at at = chars at.rest.now

-- whether the answer is what was read at the cursor `at`
abbrev pub Gives : {U : Type 0} → Read U → ContentCursor → Result U EscapeError × ContentCursor → Type 0
Gives read at answer = (answer.0 ≡ read.unit) × (text_at answer.1 ≡ read.rest) × (answer.1.end ≡ at.end)

-- ---- the digits in braces

-- the count with one more digit, but at most seven
abbrev pub next_count : ℕ → ℕ
next_count count = if nat_lt count 7 then count + 1 else count

-- the number with a digit after it. A number above 10FFFF stays as it is
abbrev pub next_number : ℕ → ℕ → ℕ
next_number number digit = if nat_le number 0x10_FFFF then 16 * number + digit else number

-- the count of digits after this character is read
abbrev pub count_with : ℕ → ℕ → ℕ
count_with count c = if is_hex c then next_count count else count

-- the number of the digits after this character is read
abbrev pub number_with : ℕ → ℕ → ℕ
number_with number c = if is_hex c then next_number number (digit_value c) else number

-- how many hex digits are at the start of the text, but at most seven
abbrev pub digit_count : List ℕ → ℕ
digit_count text = fold count_with 0 (while_front is_code_character text)

-- the number of the hex digits at the start of the text. Once it is above 10FFFF, it stays as it is
abbrev pub digit_number : List ℕ → ℕ
digit_number text = fold number_with 0 (while_front is_code_character text)

-- the unit of this many digits with this number, or an error
abbrev pub code_answer : {U : Type 0} → Kind U → ℕ → ℕ → Result U EscapeError
code_answer kind count number =
    if nat_lt 6 count then Err OverlongUnicodeEscape else kind.of_code (character number)

-- ---- items

-- whether an LF is among the blanks at the start of the text
abbrev pub skips_line : List ℕ → Bool
skips_line text = list_any (λ c. c == line_feed) (while_front is_blank text)

-- the item of a warning about a white character that was not skipped, if there is one
abbrev pub white_items : {U : Type 0} → Option (Range ℕ) → List (Item U)
white_items = warning_at UnskippedWhitespaceWarning

-- an item and the warning after it. Without an item there is no warning
abbrev pub front_items : {U : Type 0} → Option (Item U) → Option (Range ℕ) → List (Item U)
front_items None warning = []
front_items (Some item) warning = item ∷ white_items warning

-- whether the item, the warning and the cursor after them are what was read at the cursor `at`
abbrev pub GivesFront : {U : Type 0} → Items.Front U → ContentCursor → Option (Item U) → Option (Range ℕ)
    → ContentCursor → Type 0
GivesFront front at item warning after =
    (front_items item warning ≡ front.items) × (text_at after ≡ front.rest) × (after.end ≡ at.end)

-- the items of a content with escapes that are left after a cursor
abbrev pub cooked_left : {U : Type 0} → Kind U → Cooked → List (Item U)
cooked_left kind content = white_items content.warning ++ items_from kind content.cursor.end (text_at content.cursor)

-- the items of a raw content that are left after a cursor
abbrev pub raw_left : {U : Type 0} → (ℕ → Result U EscapeError) → ContentCursor → List (Item U)
raw_left of_char cursor = raw_items_from of_char cursor.end (text_at cursor)
