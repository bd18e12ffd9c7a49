-- The errors that are left in a content.
use Rattle.std.specs.Prelude.{List, Option}
use Rattle.literal_escaper.specs.declared.cooked.Cooked.{Cooked}
use Rattle.literal_escaper.specs.declared.mode.Mode.{Mode}
use Rattle.literal_escaper.specs.declared.mode.Mode.TheVariants.{Char, Byte, Str, RawStr, ByteStr, RawByteStr, CStr}
use Rattle.literal_escaper.specs.declared.mode.Mode.TheVariants.{RawCStr}
use Rattle.literal_escaper.specs.Errors.{Error, at_most_one, errors_among}
use Rattle.literal_escaper.specs.Kind.{any_char, ascii_byte, byte_kind, c_kind, string_kind}
use Rattle.literal_escaper.specs.Unescaping.{cooked_left, raw_left}
use Rattle.literal_escaper.specs.Units.{raw_c_char}

-- the errors that are left in a content of this kind: that of the single unit, or those from the cursor on
abbrev pub errors_left : Mode → Option Error → Cooked → List Error
errors_left Char single content = at_most_one single
errors_left Byte single content = at_most_one single
errors_left Str single content = errors_among (cooked_left string_kind content)
errors_left RawStr single content = errors_among (raw_left any_char content.cursor)
errors_left ByteStr single content = errors_among (cooked_left byte_kind content)
errors_left RawByteStr single content = errors_among (raw_left ascii_byte content.cursor)
errors_left CStr single content = errors_among (cooked_left c_kind content)
errors_left RawCStr single content = errors_among (raw_left raw_c_char content.cursor)
