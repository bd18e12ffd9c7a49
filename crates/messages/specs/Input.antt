-- The result of reading the whole input.
use Rattle.std.specs.Prelude.{◌≡◌, ℕ, List, Result, Ok, Err, String, string_bytes}
use Rattle.std.specs.Str.{IsUtf8}
use Rattle.std.specs.Str.Lossy.{utf8_valid_len}
use Rattle.std.specs.declared.alloc.Global.{Global}
use Rattle.messages.specs.declared.errors.Failure.{Failure}
use Rattle.messages.specs.declared.errors.Failure.TheVariants.{Usage, Fault, NotUtf8, MapFull, Memory, Read, Write}

-- the result of reading these bytes: the text of all of them, or how many of them are UTF-8 before the first that
-- isn't, or that memory ran out or the read failed
abbrev pub IsTextOf : List ℕ → Result (String Global) Failure → Type 0
IsTextOf bytes (Ok text) = string_bytes text ≡ bytes
IsTextOf bytes (Err (Usage words)) = ⊥
IsTextOf bytes (Err (Fault start)) = ⊥
IsTextOf bytes (Err (NotUtf8 byte)) = (IsUtf8 bytes → ⊥) × (byte ≡ utf8_valid_len bytes)
IsTextOf bytes (Err MapFull) = ⊥
IsTextOf bytes (Err Memory) = Unit {0}
IsTextOf bytes (Err (Read error)) = Unit {0}
IsTextOf bytes (Err (Write error)) = ⊥
