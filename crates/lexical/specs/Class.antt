-- Classes of characters. A character is its code point.
use Rattle.std.specs.Prelude.{ℕ, Bool, not, ◌&&◌, ◌||◌, ◌==◌}
use Rattle.std.specs.Char.{is_whitespace}
use Rattle.unicode_ident.specs.Ident.{is_xid_start, is_xid_continue}
use Rattle.lexical.specs.Character.{underscore}

-- `white`: whether the character is white space or one of the two marks of direction, U+200E and U+200F
abbrev pub is_white : ℕ → Bool
is_white c = is_whitespace c || (c == 0x200E) || (c == 0x200F)

-- `identifier-start`: whether the character may begin an identifier
abbrev pub is_ident_start : ℕ → Bool
is_ident_start c = ((c == underscore) || is_xid_start c) && not (is_white c) && not (c == 0xFEFF)

-- `identifier-continue`: whether the character may continue an identifier
abbrev pub is_ident_continue : ℕ → Bool
is_ident_continue c = is_xid_continue c
