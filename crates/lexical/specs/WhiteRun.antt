-- Runs of white characters. Each of them is a gap.
use Rattle.std.specs.Prelude.{ℕ, Bool, nat_lt, ◌&&◌, ◌≡◌, List, ◌++◌, length}
use Rattle.std.specs.Str.{chars, IsUtf8}
use Rattle.lexical.specs.Class.{is_white}
use Rattle.lexical.specs.Form.{Run}

-- whether the character is a white character of ASCII
abbrev pub ascii_white : ℕ → Bool
ascii_white c = nat_lt c 128 && is_white c

-- whether the text begins with `count` white characters of ASCII, and `rest` is the text after them, which begins with
-- no more of them
pub record IsPastWhite (text rest : List ℕ) (count : ℕ) : Type 0 where
  pub front : List ℕ
  pub whole : text ≡ front ++ rest
  pub stands : Run ascii_white front rest
  pub chars : count ≡ length front

-- whether `white` is all the white characters at the start of the text, and `rest` is the text after them
pub record SplitsWhite (text white rest : List ℕ) : Type 0 where
  pub joined : text ≡ white ++ rest
  pub whole : chars text ≡ chars white ++ chars rest
  pub stands : Run is_white (chars white) (chars rest)
  pub white_utf8 : IsUtf8 white
  pub rest_utf8 : IsUtf8 rest
