-- The tokens and delimiters of a text or a stream, as a list of events with positions.
use Rattle.std.specs.Prelude.{ℕ, Bool, true, false, ◌+◌, List, [], ◌∷◌, ◌++◌, codes, length}
use Rattle.lexical.specs.Token.{Token, Name, Mark, Literal}
use Rattle.lexical.specs.Piece.{Kind, Piece, FrontMark, Gap, Doc, Open, Close, Leaf}
use Rattle.pm_token.specs.Escaped.{string_text}
use Rattle.pm_token.specs.declared.delimiters.Delimiter.{Delimiter}
use Rattle.pm_token.specs.declared.delimiters.Delimiter.TheVariants.{Bracket}
use Rattle.pm_stream.specs.Delimited.{delimiter_of}

-- an event: a token, the opener of a group, or the closer of a group
pub data Event : Type 0 where
  -- a token, with the positions where it begins and ends
  One : Token → ℕ → ℕ → Event
  -- a group's opener, with the position where the group begins
  Opens : Delimiter → ℕ → Event
  -- a group's closer, with the position where the group ends
  Closes : Delimiter → ℕ → Event

-- the mark `#`
abbrev pub hash : Token
hash = Mark 35 false

-- the mark `!`
abbrev pub bang : Token
bang = Mark 33 false

-- the mark `=`
abbrev pub equals : Token
equals = Mark 61 false

-- the events of the group `[doc = ".."]`, each with the span lo..hi, and then other events
abbrev pub doc_group_onto : ℕ → ℕ → List ℕ → List Event → List Event
doc_group_onto lo hi text events =
    Opens Bracket lo
    ∷ One (Name false (codes "doc")) lo hi
    ∷ One equals lo hi
    ∷ One (Literal (string_text text)) lo hi
    ∷ Closes Bracket hi
    ∷ events

-- `doc-tokens`: the events of a doc comment, each with the span lo..hi, and then other events. An inner one has a `!`
abbrev pub doc_onto : ℕ → ℕ → Bool → List ℕ → List Event → List Event
doc_onto lo hi true text events = One hash lo hi ∷ One bang lo hi ∷ doc_group_onto lo hi text events
doc_onto lo hi false text events = One hash lo hi ∷ doc_group_onto lo hi text events

-- the events of a piece at this position, and then other events
abbrev pub events_onto : ℕ → Kind → List ℕ → List Event → List Event
events_onto at FrontMark p events = events
events_onto at Gap p events = events
events_onto at (Doc inner text) p events = doc_onto at (at + length p) inner text events
events_onto at (Open c) p events = Opens (delimiter_of c) at ∷ events
events_onto at (Close c) p events = Closes (delimiter_of c) (at + length p) ∷ events
events_onto at (Leaf token) p events = One token at (at + length p) ∷ events

-- `expansion`: the events of the pieces, of which the first is at this position
abbrev pub expansion : ℕ → List Piece → List Event
expansion at [] = []
expansion at (piece ∷ pieces) = events_onto at piece.0 piece.1 (expansion (at + length piece.1) pieces)

-- `balanced`: each opener has its closer
pub data Balanced : List Event → Type 0 where
  nothing : Balanced []
  leaf : (token : Token) (lo hi : ℕ) {events : List Event} → Balanced events → Balanced (One token lo hi ∷ events)
  group : (d : Delimiter) (lo hi : ℕ) {inside events : List Event} → Balanced inside → Balanced events
      → Balanced (Opens d lo ∷ (inside ++ (Closes d hi ∷ events)))

-- `can-go-on`: the events are the beginning of a balanced list
abbrev pub CanGoOn : List Event → Type 0
CanGoOn events = (more : List Event) × Balanced (events ++ more)
