-- Punctuation marks and lone quotes.
use Rattle.std.specs.Prelude.{ℕ, Bool, not, ◌&&◌, ◌||◌, ◌==◌, ◌≡◌, List, [], ◌∷◌, ◌++◌, IsFalse, codes}
use Rattle.std.specs.List.{list_any}
use Rattle.std.specs.Option.{is_some}
use Rattle.lexical.specs.Character.{hash_sign, single_quote}
use Rattle.lexical.specs.Text.{begins_with, begins_any, first_passes}
use Rattle.lexical.specs.Form.{Form, Exactly}
use Rattle.lexical.specs.Rule.{Rule, One, NotAt, NotBefore, Stands, find}
use Rattle.lexical.specs.Token.{raw_front}
use Rattle.lexical.specs.Identifier.{Named, any_identifier}

-- `marks`: the 22 marks
abbrev pub marks : List ℕ
marks = codes "~!@#$%^&*-=+|;:,<.>/?'"

-- whether the character is one of the 22 marks
abbrev pub is_mark : ℕ → Bool
is_mark c = list_any (λ d. d == c) marks

-- the two prefixes of comments, `//` and `/*`
abbrev pub comment_fronts : List (List ℕ)
comment_fronts = codes "//" ∷ codes "/*" ∷ []

-- `mark`: one of the marks except `'`, if no comment begins there
abbrev pub mark : Rule
mark = NotAt comment_fronts (One (λ c. is_mark c && not (c == single_quote)))

-- `mark`: a piece of the rule `mark`
abbrev pub Mark : Form
Mark = Stands mark

-- `joint`: whether a mark before r is Joint, because r begins with a mark and not with a comment
abbrev pub joint_before : List ℕ → Bool
joint_before r = first_passes is_mark r && not (begins_any comment_fronts r)

-- whether the character, right after an identifier, forbids a `'` right before the identifier: it is `'`, or it is `#`
-- and the identifier is plain
abbrev pub bars_quote : Bool → ℕ → Bool
bars_quote raw c = (c == single_quote) || ((c == hash_sign) && not raw)

-- whether the text begins with an identifier that may follow a `'`, even if a literal begins there
pub record FollowsQuote (r : List ℕ) : Type 0 where
  pub raw : Bool
  pub name : List ℕ
  pub rest : List ℕ
  pub whole : r ≡ raw_front raw ++ (name ++ rest)
  pub named : Named raw name rest
  pub unbarred : IsFalse (first_passes (bars_quote raw) rest)

-- an identifier that may follow a `'`, even if a literal begins there
abbrev pub name_after_quote : Bool → Rule
name_after_quote raw = NotBefore (bars_quote raw) (any_identifier raw)

-- whether the text begins with an identifier that may follow a `'`
abbrev pub follows_quote : List ℕ → Bool
follows_quote text = is_some (find (name_after_quote (begins_with (codes "r#") text)) text)

-- `lone-quote`: the mark `'` right before an identifier that may follow it. The identifier is not part of the mark
abbrev pub LoneQuote : Form
LoneQuote p r = Exactly (codes "'") p r × FollowsQuote r

-- the prefixes of the literals that may follow a lone quote without a gap
abbrev pub quotable_fronts : List (List ℕ)
quotable_fronts = codes "b\"" ∷ codes "c\"" ∷ codes "r\"" ∷ codes "br\"" ∷ codes "cr\"" ∷ []
