-- Which kind of piece a comment is.
use Rattle.std.specs.Prelude.{ℕ, ◌-◌, List, length, cond, Option, Some, None, take, drop}
use Rattle.lexical.specs.Comment.{is_inner, is_doc, closing, has_bare_return}
use Rattle.lexical.specs.Piece.{Kind, Gap, Doc}

-- the text of a doc comment
abbrev pub doc_text : List ℕ → List ℕ → List ℕ
doc_text p r = take (length p - 3 - length (closing p r)) (drop 3 p)

-- which kind of piece the comment is, or none if the text of a doc comment has a CR with no LF after it
abbrev pub comment_kind : List ℕ → List ℕ → Option Kind
comment_kind p r =
    cond (is_doc p)
    (cond (has_bare_return (doc_text p r)) None (Some (Doc (is_inner p) (doc_text p r))))
    (Some Gap)
