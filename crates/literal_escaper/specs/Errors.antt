-- The errors and warnings of a content.
use Rattle.std.specs.Prelude.{ℕ, List, [], ◌∷◌, Option, Some, None, Result, Ok, Err}
use Rattle.std.specs.List.{filter_map}
use Rattle.std.specs.declared.ops.Range.{Range}
use Rattle.literal_escaper.specs.declared.errors.EscapeError.{EscapeError}
use Rattle.literal_escaper.specs.declared.mode.Mode.{Mode}
use Rattle.literal_escaper.specs.declared.mode.Mode.TheVariants.{Char, Byte, Str, RawStr, ByteStr, RawByteStr, CStr}
use Rattle.literal_escaper.specs.declared.mode.Mode.TheVariants.{RawCStr}
use Rattle.literal_escaper.specs.Items.{Item, items, byte_offset, raw_items}
use Rattle.literal_escaper.specs.Kind.{Kind, any_char, ascii_byte, byte_kind, c_kind, string_kind}
use Rattle.literal_escaper.specs.Single.{single}
use Rattle.literal_escaper.specs.Text.{bytes}
use Rattle.literal_escaper.specs.Units.{raw_c_char}

-- the range of an error or a warning, and which one it is
abbrev pub Error : Type 0
Error = Range ℕ × EscapeError

-- the error with its range, or none if the result is a unit
abbrev pub error_at : {U : Type 0} → Range ℕ → Result U EscapeError → Option Error
error_at range (Ok unit) = None
error_at range (Err e) = Some (range, e)

-- the error of an item, or none if the item has a unit
abbrev pub error_of : {U : Type 0} → Item U → Option Error
error_of item = error_at item.0 item.1

-- the errors among the items
unfoldable pub errors_among : {U : Type 0} → List (Item U) → List Error
errors_among items = filter_map error_of items

-- the range from the start of the content to after the last character that was read
abbrev pub read_range : ℕ → List ℕ → Range ℕ
read_range end rest = record { start = 0; end = byte_offset end rest }

-- the error of a content that must be one unit, if it has one
abbrev pub single_error : {U : Type 0} → Kind U → List ℕ → Option Error
single_error kind text = let read = single kind text in error_at (read_range (bytes text) read.rest) read.unit

-- the list of one error, or the empty list
abbrev pub at_most_one : Option Error → List Error
at_most_one None = []
at_most_one (Some e) = e ∷ []

-- `content-errors`: the errors and warnings in a content of this kind
abbrev pub errors_in : Mode → List ℕ → List Error
errors_in Char text = at_most_one (single_error string_kind text)
errors_in Byte text = at_most_one (single_error byte_kind text)
errors_in Str text = errors_among (items string_kind text)
errors_in RawStr text = errors_among (raw_items any_char text)
errors_in ByteStr text = errors_among (items byte_kind text)
errors_in RawByteStr text = errors_among (raw_items ascii_byte text)
errors_in CStr text = errors_among (items c_kind text)
errors_in RawCStr text = errors_among (raw_items raw_c_char text)
