-- The plain comments of a text, and the messages about them.
use Rattle.std.specs.Prelude.{ℕ, Bool, true, false, ◌&&◌, ◌==◌, List, ◌++◌, codes, decimal, if◌then◌else◌}
use Rattle.std.specs.List.{count_by}
use Rattle.lexical.specs.Piece.{Kind, Piece, FrontMark, Gap, Doc, Open, Close, Leaf}
use Rattle.lexical.specs.Text.{begins_with}
use Rattle.messages.specs.Message.{of_file}

abbrev pub is_gap : Kind → Bool
is_gap Gap = true
is_gap _ = false

-- whether the piece is a comment but not a doc comment: a gap that is not a white character
abbrev pub is_comment : Piece → Bool
is_comment piece = is_gap piece.0 && begins_with (codes "/") piece.1

-- how many of the pieces are plain comments
abbrev pub comments : List Piece → ℕ
comments pieces = count_by is_comment pieces

-- the message that `count` comments were left out
abbrev pub note : ℕ → List ℕ
note count =
    if count == 1 then codes "note: 1 comment is not kept; tokens indent keeps it\n"
    else codes "note: " ++ (decimal count ++ codes " comments are not kept; tokens indent keeps them\n")

-- the message that `count` comments would be lost
abbrev pub denial : List ℕ → ℕ → List ℕ
denial path count =
    if count == 1 then of_file path (codes "1 comment would be lost; tokens indent keeps it\n")
    else of_file path (decimal count ++ codes " comments would be lost; tokens indent keeps them\n")
