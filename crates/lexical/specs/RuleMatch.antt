-- What a step of the lexer returns, compared with the rule.
use Rattle.std.specs.Prelude.{ℕ, ◌≡◌, ◌+◌, List, length, Option, Some, None, MatchOption, IsTrue}
use Rattle.std.specs.Borrow.{Bor}
use Rattle.std.specs.Str.{chars}
use Rattle.lexical.specs.Finder.{prepend}
use Rattle.lexical.specs.Ascii.{all_ascii}
use Rattle.lexical.specs.Rule.{Rule, find}
use Rattle.lexical.specs.declared.cursor.TextCursor.{TextCursor}

-- whether the text from the cursor `at` to the cursor `to` is a piece of the rule
pub record Passes (rule : Rule) (at to : TextCursor) : Type 0 where
  pub front : List ℕ
  pub found : find rule (chars at.rest.now) ≡ Some (front, chars to.rest.now)
  pub count : to.chars_before ≡ at.chars_before + length front

-- whether the step returns the cursor after the rule's piece, and `None` if there is no piece
abbrev pub Reads : Rule → TextCursor → Option TextCursor → Type 0
Reads rule at result = MatchOption result (find rule (chars at.rest.now) ≡ None) (Passes rule at)

-- whether the rule's piece at `at` is the text up to `to` and then the piece of `rest` there
pub record Leads (rule : Rule) (at : TextCursor) (rest : Rule) (to : TextCursor) : Type 0 where
  pub front : List ℕ
  pub found : find rule (chars at.rest.now) ≡ prepend front (find rest (chars to.rest.now))
  pub count : to.chars_before ≡ at.chars_before + length front

-- whether a piece of the rule follows the cursor, with this text, which is ASCII, and this cursor after it
pub record PassesText (rule : Rule) (at : TextCursor) (x : Bor (List ℕ) × TextCursor) : Type 0 where
  pub found : find rule (chars at.rest.now) ≡ Some (x.0.now, chars x.1.rest.now)
  pub count : x.1.chars_before ≡ at.chars_before + length x.0.now
  pub ascii : IsTrue (all_ascii x.0.now)

-- whether the step returns the rule's piece and the cursor after it, and `None` if there is no piece
abbrev pub ReadsText : Rule → TextCursor → Option (Bor (List ℕ) × TextCursor) → Type 0
ReadsText rule at result = MatchOption result (find rule (chars at.rest.now) ≡ None) (PassesText rule at)
