-- The content of a string literal without a suffix: the text between its quotes.
use Rattle.std.specs.Prelude.{ℕ, Bool, ◌==◌, List, ◌++◌, codes, drop, length, reverse, Option, Some, None}
use Rattle.std.specs.Prelude.{option_and_then, if◌then◌else◌}
use Rattle.std.specs.Option.{option_map}
use Rattle.lexical.specs.Text.{begins_with}
use Rattle.literal_escaper.specs.Text.{while_front}

-- the text after this prefix, or `None` if the text does not begin with it
unfoldable pub strip_front : List ℕ → List ℕ → Option (List ℕ)
strip_front front text = if begins_with front text then Some (drop (length front) text) else None

-- the text before this ending, or `None` if the text does not end with it
unfoldable pub before : List ℕ → List ℕ → Option (List ℕ)
before back text = option_map reverse (strip_front (reverse back) (reverse text))

-- the text between a prefix and an ending
abbrev pub between : List ℕ → List ℕ → List ℕ → Option (List ℕ)
between front back text = option_and_then (before back) (strip_front front text)

-- `cooked-content`: the text after this prefix and before a quote at the end
abbrev pub cooked_content : List ℕ → List ℕ → Option (List ℕ)
cooked_content front text = between front (codes "\"") text

abbrev pub is_hash : ℕ → Bool
is_hash c = c == 35

-- the hash signs that the text begins with
abbrev pub hashes : List ℕ → List ℕ
hashes text = while_front is_hash text

-- the text between quotes that have equally many hash signs outside of them
unfoldable pub hashed_content : List ℕ → Option (List ℕ)
hashed_content text = between (hashes text ++ codes "\"") (codes "\"" ++ hashes text) text

-- `raw-content`: the text after this prefix, without its quotes and hash signs
abbrev pub raw_content : List ℕ → List ℕ → Option (List ℕ)
raw_content front text = option_and_then hashed_content (strip_front front text)
