-- The first line of a script.
use Rattle.std.specs.Prelude.{ℕ, Bool, true, not, ◌&&◌, ◌==◌, List, [], ◌∷◌, ◌++◌, codes, drop, if◌then◌else◌}
use Rattle.lexical.specs.Character.{line_feed}
use Rattle.lexical.specs.Class.{is_white}
use Rattle.lexical.specs.Finder.{while_front, while_rest}
use Rattle.lexical.specs.Text.{begins_with}

-- `script-line`: whether the text begins with a line `#!..` that is not an attribute: no `[` follows `#!`, even after
-- white space
abbrev pub is_script : List ℕ → Bool
is_script text = begins_with (codes "#!") text && not (begins_with (codes "[") (while_rest is_white (drop 2 text)))

abbrev pub in_line : ℕ → Bool
in_line c = not (c == line_feed)

-- the first line of a script without its LF, empty if the text begins with none
abbrev pub script_line : List ℕ → List ℕ
script_line text = if is_script text then while_front in_line text else []

-- the text after the first line of a script, from its LF on; the whole text if there is no such line
abbrev pub code_of : List ℕ → List ℕ
code_of text = if is_script text then while_rest in_line text else text

-- a text after the line and an LF, or alone if the line is empty
abbrev pub with_line : List ℕ → List ℕ → List ℕ
with_line [] text = text
with_line (c ∷ line) text = (c ∷ line) ++ (codes "\n" ++ text)
