-- When a `Trouble` is right, which is what the functions of this crate return for a fault.
use Rattle.std.specs.Prelude.{ℕ, ◌≡◌, ◌+◌, List, ◌++◌, length}
use Rattle.std.specs.Str.{chars}
use Rattle.lexical.specs.declared.cursor.TextCursor.{TextCursor}
use Rattle.explain.specs.Reason.{Holds}
use Rattle.explain.specs.declared.trouble.Trouble.{Trouble}

-- the reason holds of the text at the cursor, and the wrong part is between the two cursors of the `Trouble`
pub record IsTrouble (at : TextCursor) (x : Trouble) : Type 0 where
  pub front : List ℕ
  pub part : List ℕ
  pub before : chars at.rest.now ≡ front ++ chars x.at.rest.now
  pub here : chars x.at.rest.now ≡ part ++ chars x.after.rest.now
  pub count : x.at.chars_before ≡ at.chars_before + length front
  pub size : x.after.chars_before ≡ x.at.chars_before + length part
  pub holds : Holds x.reason front part (chars x.after.rest.now)
