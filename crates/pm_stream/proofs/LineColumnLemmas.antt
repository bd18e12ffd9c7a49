-- Where spans in a map's last file start, and properties of the trees inside groups.
use Rattle.std.proofs.Common.{◌≡◌, ◌+◌, ◌-◌, ◌≤◌, ℕ, List, [], ◌∷◌, length, refl}
use Rattle.std.specs.List.{AllByRecursion as Each}
use Rattle.lexical.specs.Token.{Token, Name, Mark, Literal}
use Rattle.pm_span.specs.Extent.{Extent}
use Rattle.pm_span.specs.Files.{Files, Holds, IsFile, all_texts, new_map, next_lo, with_file}
use Rattle.pm_span.specs.Lookup.{StartsAt}
use Rattle.pm_span.specs.CharOffset.{line_column}
use Rattle.pm_span.specs.declared.location.LineColumn.{LineColumn}
use Rattle.pm_stream.specs.Forest.{Forest, nil, leaf, group}
use Rattle.pm_stream.specs.InOrder.{token_tree, in_order_onto, in_order}
use Rattle.pm_stream.specs.Trees.{inside}
use Rattle.pm_stream.specs.Parsing.{FaultAt, ParsesTo}
use Rattle.pm_stream.specs.TreeSpan.{extent_of}
use Rattle.pm_stream.specs.declared.stream.TokenTree.{TokenTree}
use Rattle.pm_stream.proofs.FaultLemmas.{fault_within}
use Rattle.pm_stream.proofs.InOrderLemmas.{each_parts}
use Rattle.pm_stream.proofs.SpanLemmas.{IsWithin, parsed_within, source_held}

-- the map's last file is this text
pub last_file : (map : Files) (source : List ℕ) → IsFile (with_file map source) source (next_lo map)
last_file map source = record { before = all_texts map; after = []; whole = refl; begins = refl }

-- where a span in the last file starts
pub starts_in_last : (map : Files) (source : List ℕ) (span : Extent) (start : LineColumn)
    → next_lo map ≤ span.lo → span.hi ≤ next_lo map + length source → StartsAt (with_file map source) span start
    → start ≡ line_column source (span.lo - next_lo map)
starts_in_last map source span start from to starts = starts source (next_lo map) (last_file map source) from to

-- the map holds the span of the tree, which starts at its line and column of the text, the first of a new map
abbrev pub HasLineColumn : List ℕ → TokenTree → Type 0
HasLineColumn text tree =
    Holds (with_file new_map text) (extent_of tree)
    × ((start : LineColumn) → StartsAt (with_file new_map text) (extent_of tree) start
    → start ≡ line_column text ((extent_of tree).lo - next_lo new_map))

each_line_column : (text : List ℕ) (trees : List TokenTree)
    → Each (IsWithin (next_lo new_map) (next_lo new_map + length text)) trees → Each (HasLineColumn text) trees
each_line_column text [] h = tt
each_line_column text (tree ∷ trees) h =
    let span = extent_of tree in (
      (source_held new_map text span h.0.0 h.0.1, λ start. starts_in_last new_map text span start h.0.0 h.0.1),
      each_line_column text trees h.1,
    )

-- each tree of a text that was parsed with a new map has its span in the map, which starts at its line and column
pub parsed_line_columns : (text : List ℕ) (stream : Forest) → ParsesTo (next_lo new_map) text stream
    → Each (HasLineColumn text) (in_order stream)
parsed_line_columns text stream parses =
    each_line_column text (in_order stream) (parsed_within (next_lo new_map) text stream parses)

-- where the fault of a map's last file starts
pub fault_starts : (old new : Files) (source : List ℕ) (fault : Extent) (start : LineColumn)
    → new ≡ with_file old source → (fault.lo ≡ fault.hi) × FaultAt (next_lo old) source fault.lo
    → StartsAt new fault start
    → start ≡ line_column source (fault.lo - next_lo old)
fault_starts old new source fault start added stands starts =
    let within = fault_within (next_lo old) source fault.lo stands.1 in
    starts_in_last old source fault start within.0 (rw (← stands.0) within.1) (rw added at starts)

-- the property holds of each tree inside the tree
abbrev pub EachInside : (TokenTree → Type 0) → TokenTree → Type 0
EachInside P tree = Each P (in_order (inside tree))

token_inside : (P : TokenTree → Type 0) (token : Token) (lo hi : ℕ) → EachInside P (token_tree token lo hi)
token_inside P (Name raw name) lo hi = tt
token_inside P (Mark c joint) lo hi = tt
token_inside P (Literal text) lo hi = tt

each_inside_onto : (P : TokenTree → Type 0) (f : Forest) (more : List TokenTree) → Each P (in_order f)
    → Each (EachInside P) more → Each (EachInside P) (in_order_onto f more)
each_inside_onto P nil more h k = k
each_inside_onto P (leaf token lo hi f) more h k = (token_inside P token lo hi, each_inside_onto P f more h.1 k)
each_inside_onto P (group d lo hi f g) more h k =
    let parts = each_parts P f (in_order g) h.1 in
    (parts.0, each_inside_onto P f (in_order_onto g more) parts.0 (each_inside_onto P g more parts.1 k))

-- a property of each tree of a stream is also true of each tree inside these trees
pub each_inside : (P : TokenTree → Type 0) (f : Forest) → Each P (in_order f) → Each (EachInside P) (in_order f)
each_inside P f h = each_inside_onto P f [] h tt

-- the trees inside each of these trees have their lines and columns
abbrev pub HaveLineColumnsInside : List ℕ → List TokenTree → Type 0
HaveLineColumnsInside text = Each (EachInside (HasLineColumn text))

pub inside_line_columns : (text : List ℕ) (stream : Forest) → ParsesTo (next_lo new_map) text stream
    → HaveLineColumnsInside text (in_order stream)
inside_line_columns text stream parses =
    each_inside (HasLineColumn text) stream (parsed_line_columns text stream parses)
