-- The byte order mark at the start of a source.
use Rattle.std.specs.Prelude.{Bool, [], ◌∷◌, IsTrue}
use Rattle.lexical.specs.Form.{Form, Exactly}

-- `front-mark`: U+FEFF, at byte offset 0 and nowhere else
abbrev pub FrontMark : Bool → Form
FrontMark first p r = IsTrue first × Exactly (0xFEFF ∷ []) p r
