-- How tokens keep their texts.
use Rattle.std.specs.Prelude.{◌≤◌, ℕ, List, Bool, true, false, length, string_bytes}
use Rattle.std.specs.Rc.{rc_str_bytes}
use Rattle.std.specs.Str.{encode_utf8_all}
use Rattle.pm_token.specs.declared.symbols.Text.{Text}
use Rattle.pm_token.specs.declared.symbols.Text.TheVariants.{Short, Long, Negative}
use Rattle.pm_token.specs.declared.symbols.short.TheConstants.{ROOM}
use Rattle.pm_token.specs.declared.symbols.names.NameText.{NameText}
use Rattle.pm_token.specs.declared.symbols.names.NameText.TheVariants as names

-- the bytes of a text
abbrev pub text_bytes : Text → List ℕ
text_bytes (Short text) = text
text_bytes (Long long) = rc_str_bytes long.text.text
text_bytes (Negative text) = string_bytes text.value

-- whether the text is kept in place, which takes at most 22 bytes; a copy of it allocates nothing
abbrev pub IsShort : List ℕ → Type 0
IsShort text = length (encode_utf8_all text) ≤ ROOM

-- a name without `r#`, and whether it is raw
pub record KeptName : Type 0 where
  pub name : List ℕ
  pub raw : Bool

-- the bytes of a name
abbrev pub name_bytes : NameText → List ℕ
name_bytes (names.Short name) = name
name_bytes (names.Long name) = rc_str_bytes name.text
name_bytes (names.RawShort name) = name
name_bytes (names.RawLong name) = rc_str_bytes name.text

-- whether the name is raw
abbrev pub is_raw : NameText → Bool
is_raw (names.Short name) = false
is_raw (names.Long name) = false
is_raw (names.RawShort name) = true
is_raw (names.RawLong name) = true
