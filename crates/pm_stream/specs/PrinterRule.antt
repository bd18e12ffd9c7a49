-- The rule of the printer, by cases.
use Rattle.std.specs.Prelude.{ℕ, Bool, true, List, [], ◌++◌, codes, if◌then◌else◌}
use Rattle.lexical.specs.Token.{token_text}
use Rattle.pm_token.specs.declared.delimiters.Delimiter.{Delimiter}
use Rattle.pm_token.specs.declared.delimiters.Delimiter.TheVariants.{Parenthesis, Brace, Bracket, None}
use Rattle.pm_stream.specs.Forest.{Forest, nil, leaf, group}
use Rattle.pm_stream.specs.Printed.{parts}
use Rattle.pm_stream.specs.Size.{is_nil}

-- one space between two trees, unless the first is a Joint mark
abbrev pub separator : Bool → Forest → List ℕ
separator parting rest = if is_nil rest then [] else (if parting then codes " " else [])

-- the text of a group, from the text of its stream and whether that stream is empty
abbrev pub text_of_group : Delimiter → Bool → List ℕ → List ℕ
text_of_group Parenthesis empty text = codes "(" ++ (text ++ codes ")")
text_of_group Brace empty text = if empty then codes "{ }" else (codes "{ " ++ (text ++ codes " }"))
text_of_group Bracket empty text = codes "[" ++ (text ++ codes "]")
text_of_group None empty text = text

-- the text of the trees, one after another
abbrev pub text_by_rule : Forest → List ℕ
text_by_rule nil = []
text_by_rule (leaf token lo hi rest) = token_text token ++ (separator (parts token) rest ++ text_by_rule rest)
text_by_rule (group d lo hi inside rest) =
    text_of_group d (is_nil inside) (text_by_rule inside) ++ (separator true rest ++ text_by_rule rest)
