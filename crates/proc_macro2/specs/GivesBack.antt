-- How the spans of a parsed stream give back its source. Each tree has a run of the pieces that cover the source.
use Rattle.std.specs.Prelude.{ℕ, Bool, ◌+◌, ◌<◌, ◌≡◌, ◌⊎◌, ◌↔◌, List, [], ◌∷◌, ◌++◌, All, Contains, length}
use Rattle.std.specs.Prelude.{slice_index_or}
use Rattle.lexical.specs.Token.{Token, token_text}
use Rattle.lexical.specs.Piece.{Piece, Doc, Open, Close, Leaf}
use Rattle.lexical.specs.Cover.{onto, width}
use Rattle.pm_span.specs.Files.{Files, next_lo, with_file, Extends}
use Rattle.pm_span.specs.Lookup.{IsTextOf}
use Rattle.pm_token.specs.Leaf.{name_token, mark_token, text_token}
use Rattle.pm_stream.specs.Delimited.{opening, closing}
use Rattle.pm_stream.specs.Events.{doc_onto, expansion}
use Rattle.pm_stream.specs.Forest.{Forest, flattening}
use Rattle.pm_stream.specs.InOrder.{in_order}
use Rattle.pm_stream.specs.Trees.{forest}
use Rattle.pm_stream.specs.Parsing.{ParsesTo}
use Rattle.pm_stream.specs.TreeSpan.{extent_of}
use Rattle.pm_stream.specs.declared.stream.Group.{Group as Grouped}
use Rattle.pm_stream.specs.declared.stream.TokenTree.{TokenTree}
use Rattle.pm_stream.specs.declared.stream.TokenTree.TheVariants.{Group, Ident, Punct, Literal}

-- the piece of a token, with the token's text
abbrev pub piece_of : Token → Piece
piece_of token = (Leaf token, token_text token)

-- whether the run goes from an opener to its closer, and the pieces between them give the group's stream
pub record IsRunOfGroup (run : List Piece) (group : Grouped) : Type 0 where
  pub opener : ℕ
  pub closer : ℕ
  pub middle : List Piece
  pub pieces :
      run ≡ (Open opener, opening group.delimiter) ∷ (middle ++ ((Close closer, closing group.delimiter) ∷ []))
  pub gives : flattening group.stream ≡ expansion (group.span.lo + length (opening group.delimiter)) middle

-- whether the run is how the tree is written: the piece of a token, or all pieces of a group
abbrev pub IsRunOf : List Piece → TokenTree → Type 0
IsRunOf run (Group g) = IsRunOfGroup run g
IsRunOf run (Ident i) = run ≡ piece_of (name_token i) ∷ []
IsRunOf run (Punct p) = run ≡ piece_of (mark_token p) ∷ []
IsRunOf run (Literal l) = run ≡ piece_of (text_token l) ∷ []

-- whether the run is one doc comment, and the tree is one of those that it gives, with the comment's span
pub record IsRunOfDoc (run : List Piece) (tree : TokenTree) : Type 0 where
  pub inner : Bool
  pub text : List ℕ
  pub comment : List ℕ
  pub trees : Forest
  pub piece : run ≡ (Doc inner text, comment) ∷ []
  pub gives : flattening trees ≡ doc_onto (extent_of tree).lo (extent_of tree).hi inner text []
  pub among : Contains (in_order trees) tree

-- whether the tree has a run among the pieces, which begin at base, and its span covers exactly this run
pub record StandsOn (base : ℕ) (pieces : List Piece) (tree : TokenTree) : Type 0 where
  pub before : List Piece
  pub run : List Piece
  pub after : List Piece
  pub whole : pieces ≡ before ++ (run ++ after)
  pub begins : (extent_of tree).lo ≡ base + width before
  pub ends : (extent_of tree).hi ≡ (extent_of tree).lo + width run
  pub is_run : IsRunOf run tree ⊎ IsRunOfDoc run tree

-- `gives-back`: whether the text of the tree's span in the map is the text of its run
pub record GivesBack (map : Files) (base : ℕ) (pieces : List Piece) (tree : TokenTree) : Type 0 where
  pub on : StandsOn base pieces tree
  pub text : (text : List ℕ) → IsTextOf map (extent_of tree) text ↔ (text ≡ onto on.run [])

-- each tree of a parsed stream gives back its text, in every map that extends the one after the parse
abbrev pub SpansGiveBack : Type 0
SpansGiveBack = (old map : Files) (source : List ℕ) (stream : Forest) (parsed : ParsesTo (next_lo old) source stream)
    → Extends (with_file old source) map → All (GivesBack map (next_lo old) parsed.pieces) (in_order stream)

-- in the map after the parse, each tree of a list that makes the parsed stream gives back its text
abbrev pub ListedGiveBack : Type 0
ListedGiveBack = (old map : Files) (source : List ℕ) (stream : Forest) (parsed : ParsesTo (next_lo old) source stream)
    → map ≡ with_file old source → (trees : List TokenTree) → forest trees ≡ stream
    → (tree : TokenTree) (index : ℕ) → index < length trees → tree ≡ slice_index_or trees index tree
    → GivesBack map (next_lo old) parsed.pieces tree
