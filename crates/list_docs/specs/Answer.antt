-- What the program writes for a text.
use Rattle.std.specs.Prelude.{ℕ, List, [], ◌∷◌, ◌++◌, codes, decimal, Option, Some, None}
use Rattle.std.specs.Io.KnownBytes.{Appends}
use Rattle.std.specs.Str.{encode_utf8_all}
use Rattle.proc_macro2.specs.Forest.{Forest}
use Rattle.proc_macro2.specs.InOrder.{in_order}
use Rattle.proc_macro2.specs.Leaf.{Text}
use Rattle.proc_macro2.specs.Parsing.{ParsesTo}
use Rattle.proc_macro2.specs.declared.LineColumn.{LineColumn}
use Rattle.proc_macro2.specs.declared.TokenTree.{TokenTree}
use Rattle.messages.specs.Parsed.{first, line_column_of}
use Rattle.list_docs.specs.Doc.{doc_of}
use Rattle.list_docs.specs.Item.{State, Nothing, after, line_of_item}

-- a line and a column, as in `1:0`, and then `more`
abbrev pub at_line_column : LineColumn → List ℕ → List ℕ
at_line_column start more = decimal start.line ++ (codes ":" ++ (decimal start.column ++ more))

-- the line for a doc comment's literal, if there is one
abbrev pub line_of_literal : List ℕ → Option Text → List ℕ
line_of_literal text None = []
line_of_literal text (Some literal) =
    at_line_column (line_column_of text literal.span.lo) (codes " " ++ (encode_utf8_all literal.text ++ codes "\n"))

-- the lines for a tree in this state: for its doc comment, or for the item whose name it is
abbrev pub lines_of : List ℕ → State → TokenTree → List ℕ
lines_of text state tree = line_of_literal text (doc_of tree) ++ line_of_item state tree

-- the lines for the trees, in order
abbrev pub all_lines : List ℕ → State → List TokenTree → List ℕ
all_lines text state [] = []
all_lines text state (tree ∷ trees) = lines_of text state tree ++ all_lines text (after state tree) trees

-- the lines for the trees of the text, in reading order, are appended to the output
abbrev pub Writes : List ℕ → Option (List ℕ) → Option (List ℕ) → Type 0
Writes text old new =
    (stream : Forest) × ParsesTo first text stream × Appends old new (all_lines text Nothing (in_order stream))
