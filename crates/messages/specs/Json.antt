-- Texts in JSON.
use Rattle.std.specs.Prelude.{ℕ, ◌+◌, ◌-◌, ◌==◌, List, [], ◌∷◌, ◌++◌, codes, encode_utf8, nat_lt, if◌then◌else◌}
use Rattle.std.specs.Str.{chars}
use Rattle.messages.specs.Each.{each}

-- a digit to the base 16
abbrev pub hex : ℕ → List ℕ
hex n = if nat_lt n 10 then (48 + n) ∷ [] else (87 + n) ∷ []

-- a character in a string of JSON. `"` (34), the backslash (92) and control characters are escaped
abbrev pub escape : ℕ → List ℕ
escape c =
    if c == 34 then codes "\\\""
    else (if c == 92 then codes "\\\\"
    else (if nat_lt c 16 then codes "\\u000" ++ hex c
    else (if nat_lt c 32 then codes "\\u001" ++ hex (c - 16) else encode_utf8 c)))

-- a text in a string of JSON
abbrev pub json_escape : List ℕ → List ℕ
json_escape text = each escape (chars text)
