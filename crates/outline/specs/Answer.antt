-- The lines that the program writes for a text.
use Rattle.std.specs.Prelude.{ℕ, ◌≡◌, ◌+◌, ◌-◌, ◌&&◌, Bool, false, List, [], ◌∷◌, ◌++◌, Option, Some, None, is_some}
use Rattle.std.specs.Prelude.{length, max, min, nat_le, if◌then◌else◌}
use Rattle.std.specs.Option.{option_to_list}
use Rattle.pm_span.specs.CharOffset.{between}
use Rattle.pm_span.specs.Extent.{Extent}
use Rattle.pm_stream.specs.Parsing.{ParsesTo}
use Rattle.pm_stream.specs.Trees.{forest}
use Rattle.pm_stream.specs.declared.stream.TokenTree.{TokenTree}
use Rattle.pm_token.specs.Leaf.{Name}
use Rattle.pm_token.specs.Spelling.{spelling}
use Rattle.proc_macro2.specs.declared.LineColumn.{LineColumn}
use Rattle.messages.specs.Parsed.{first, line_column_of}
use Rattle.outline.specs.Line.{Line, line_of, one_line}
use Rattle.outline.specs.Outline.{Entry, IsTreesOutline, Outline, entries_of, first_of, last_of}
use Rattle.outline.specs.declared.options.Form.{Form}

-- ---- a span of the text

-- whether the span is in the text
abbrev pub is_in : List ℕ → Extent → Bool
is_in text span = nat_le first span.lo && nat_le span.hi (first + length text)

-- the line and the column where the span begins, or those of the text's start if the span is not in the text
abbrev pub place_in : List ℕ → Extent → LineColumn
place_in text span = line_column_of text (if is_in text span then span.lo else first)

-- the text from the start of one span to the end of the other
abbrev pub through : List ℕ → Extent → Extent → List ℕ
through text from to =
    if is_in text from && is_in text to
    then between text (min from.lo to.lo - first) (max from.hi to.hi - first)
    else []

-- ---- a declaration of the text

-- the name of a declaration, or its header on one line, without the body
abbrev pub name_in : List ℕ → Option Name → List TokenTree → List ℕ
name_in text (Some name) header = spelling name
name_in text None header = one_line false (through text (first_of header) (last_of header))

-- a declaration as it is shown
abbrev pub shown_line : List ℕ → Entry → Line
shown_line text entry = record {
  depth = entry.depth;
  kind = entry.kind;
  named = is_some entry.name;
  name = name_in text entry.name entry.header;
  start = place_in text (first_of entry.header);
}

-- the lines of the declarations, in order
abbrev pub lines_of : Form → List ℕ → List ℕ → List Entry → List (List ℕ)
lines_of form path text [] = []
lines_of form path text (entry ∷ entries) =
    option_to_list (line_of form path (shown_line text entry)) ++ lines_of form path text entries

-- ---- all declarations of a text

-- these are the lines of the declarations in the text
pub record Lists (form : Form) (path text : List ℕ) (lines : List (List ℕ)) : Type 0 where
  pub trees : List TokenTree
  pub parses : ParsesTo first text (forest trees)
  pub outline : Outline
  pub are : IsTreesOutline trees outline
  pub each : lines ≡ lines_of form path text (entries_of outline)

-- the text parses, but its trees are not the items of a file
pub record IsUnlisted (text : List ℕ) : Type 0 where
  pub trees : List TokenTree
  pub parses : ParsesTo first text (forest trees)
  pub never : (outline : Outline) → IsTreesOutline trees outline → ⊥
