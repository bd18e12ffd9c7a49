-- Gaps: white characters and comments that are no doc comments.
use Rattle.lexical.specs.Class.{is_white}
use Rattle.lexical.specs.Form.{Form, Either, One}
use Rattle.lexical.specs.Comment.{PlainComment}

-- `gap`: one white character, or one comment that is no doc comment
abbrev pub Gap : Form
Gap = Either (One is_white) PlainComment
