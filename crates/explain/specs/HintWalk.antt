-- What the loops that search for a hint find, in terms of cursors.
use Rattle.std.specs.Prelude.{ℕ, ◌≡◌, ◌+◌, ◌-◌, List, [], ◌∷◌, ◌++◌, codes, false, length, Option, Some, None}
use Rattle.std.specs.Prelude.{MatchOption}
use Rattle.std.specs.Prelude.{if◌then◌else◌, nat_le}
use Rattle.std.specs.Str.{chars}
use Rattle.lexical.specs.Block.{block_signs}
use Rattle.lexical.specs.Character.{double_quote, hash_sign}
use Rattle.lexical.specs.Comment.{BlockComment}
use Rattle.lexical.specs.Form.{HasNone}
use Rattle.lexical.specs.Rule.{Run, Stands}
use Rattle.lexical.specs.Text.{begins_any}
use Rattle.lexical.specs.declared.cursor.TextCursor.{TextCursor}
use Rattle.explain.specs.Hint.{AreOpen, no_end}
use Rattle.explain.specs.Shapes.{closed_raw_body, is_hash}
use Rattle.explain.specs.Walk.{IsPast}
use Rattle.explain.specs.declared.comment_hints.Sign.{Sign}
use Rattle.explain.specs.declared.comment_hints.Sign.TheVariants.{Opens, Closes, Other}

-- the text between the cursors is `/*`, `*/`, or a character at which neither begins
abbrev pub IsSign : Sign → TextCursor → TextCursor → Type 0
IsSign Opens at to = (chars at.rest.now ≡ codes "/*" ++ chars to.rest.now) × (to.chars_before ≡ at.chars_before + 2)
IsSign Closes at to = (chars at.rest.now ≡ codes "*/" ++ chars to.rest.now) × (to.chars_before ≡ at.chars_before + 2)
IsSign Other at to =
    (c : ℕ) × (chars at.rest.now ≡ c ∷ chars to.rest.now) × (to.chars_before ≡ at.chars_before + 1)
    × (begins_any block_signs (chars at.rest.now) ≡ false)

-- the comment between the cursors `from` and `to` ended last
pub record EndedLast (start from to : TextCursor) : Type 0 where
  pub before : IsPast start from
  pub comment : IsPast from to
  pub depth : ℕ
  pub inside : AreOpen depth before.part (chars from.rest.now)
  pub stands : BlockComment comment.part (chars to.rest.now)
  pub last : Stands no_end (chars to.rest.now) []

-- `depth` comments are open at the end of the text, and the comment that ended last, if any, is between the two cursors
abbrev pub LeftComments : TextCursor → ℕ → Option (TextCursor × TextCursor) → Type 0
LeftComments start depth closed =
    AreOpen depth (chars start.rest.now) []
    × MatchOption closed (Stands no_end (chars start.rest.now) []) (λ x. EndedLast start x.0 x.1)

-- between the cursors `from` and `to` is a quote and its hash signs, and no quote in the content has more
pub record CameNearest (inside from to : TextCursor) : Type 0 where
  pub before : IsPast inside from
  pub signs : List ℕ
  pub quote : chars from.rest.now ≡ (double_quote ∷ signs) ++ chars to.rest.now
  pub count : to.chars_before ≡ from.chars_before + length (double_quote ∷ signs)
  pub run : Stands (Run is_hash) signs (chars to.rest.now)
  pub closes : Stands (closed_raw_body signs) (before.part ++ (double_quote ∷ signs)) (chars to.rest.now)
  pub most : HasNone (Stands (closed_raw_body (hash_sign ∷ signs))) (chars inside.rest.now)

-- the pair of cursors with more characters between them, and of two pairs with the same number the first
abbrev pub longer : Option (TextCursor × TextCursor) → TextCursor → TextCursor → Option (TextCursor × TextCursor)
longer None from to = Some (from, to)
longer (Some x) from to =
    if nat_le (to.chars_before - from.chars_before) (x.1.chars_before - x.0.chars_before) then Some x
    else Some (from, to)
