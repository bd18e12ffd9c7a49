-- The lines that say where trees are.
use Rattle.std.specs.Prelude.{ℕ, ◌-◌, List, ◌++◌, codes, decimal}
use Rattle.proc_macro2.specs.Files.{new_map, next_lo}
use Rattle.proc_macro2.specs.CharOffset.{line_column}
use Rattle.proc_macro2.specs.TreeSpan.{extent_of}
use Rattle.proc_macro2.specs.declared.LineColumn.{LineColumn}
use Rattle.proc_macro2.specs.declared.TokenTree.{TokenTree}
use Rattle.proc_macro2.specs.declared.TokenTree.TheVariants.{Group, Ident, Punct, Literal}
use Rattle.proc_macro2.specs.declared.Place.{Place}
use Rattle.proc_macro2.specs.declared.PlacedTree.{PlacedTree}
use Rattle.proc_macro2.specs.declared.TreeKind.{TreeKind}
use Rattle.proc_macro2.specs.declared.TreeKind.TheVariants as kinds

-- the word for the kind of a tree
abbrev pub kind : TokenTree → List ℕ
kind (Group g) = codes "group"
kind (Ident i) = codes "ident"
kind (Punct p) = codes "punct"
kind (Literal l) = codes "literal"

-- a line and a column, as in `1:0`
abbrev pub line_column_text : LineColumn → List ℕ
line_column_text at = decimal at.line ++ (codes ":" ++ decimal at.column)

-- the line of the output with two positions and a word
abbrev pub line_text : LineColumn → LineColumn → List ℕ → List ℕ
line_text start end word =
    line_column_text start ++ (codes "-" ++ (line_column_text end ++ (codes " " ++ (word ++ codes "\n"))))

-- the line and column in the source of a position in a new map
abbrev pub line_column_of : List ℕ → ℕ → LineColumn
line_column_of source position = line_column source (position - next_lo new_map)

-- the line of the output for a tree of the source
abbrev pub span_line : List ℕ → TokenTree → List ℕ
span_line source tree =
    line_text (line_column_of source (extent_of tree).lo) (line_column_of source (extent_of tree).hi) (kind tree)

-- the word for a kind
abbrev pub kind_word : TreeKind → List ℕ
kind_word kinds.Group = codes "group"
kind_word kinds.Ident = codes "ident"
kind_word kinds.Punct = codes "punct"
kind_word kinds.Literal = codes "literal"

-- the text of a place, as in `1:0`
abbrev pub place_text : Place → List ℕ
place_text place = line_column_text (record { line = place.line; column = place.column })

-- the line of the output for a tree whose places are known
abbrev pub tree_line : PlacedTree → List ℕ
tree_line tree =
    place_text tree.start ++ (codes "-" ++ (place_text tree.end ++ (codes " " ++ (kind_word tree.kind ++ codes "\n"))))
