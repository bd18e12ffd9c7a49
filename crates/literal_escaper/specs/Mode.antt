-- Kinds of literals.
use Rattle.std.specs.Prelude.{ℕ, Bool, true, false, List, codes}
use Rattle.literal_escaper.specs.declared.mode.Mode.{Mode}
use Rattle.literal_escaper.specs.declared.mode.Mode.TheVariants.{Char, Byte, Str, RawStr, ByteStr, RawByteStr, CStr}
use Rattle.literal_escaper.specs.declared.mode.Mode.TheVariants.{RawCStr}

-- whether a literal of this kind is between double quotes
abbrev pub is_double_quoted : Mode → Bool
is_double_quoted Char = false
is_double_quoted Byte = false
is_double_quoted Str = true
is_double_quoted RawStr = true
is_double_quoted ByteStr = true
is_double_quoted RawByteStr = true
is_double_quoted CStr = true
is_double_quoted RawCStr = true

-- the prefix of a literal of this kind, without its `r`
abbrev pub prefix : Mode → List ℕ
prefix Char = codes ""
prefix Byte = codes "b"
prefix Str = codes ""
prefix RawStr = codes ""
prefix ByteStr = codes "b"
prefix RawByteStr = codes "b"
prefix CStr = codes "c"
prefix RawCStr = codes "c"
