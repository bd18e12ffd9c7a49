-- What a source parses to, and the position of its fault. Positions count characters; the source begins at `base`.
use Rattle.std.specs.Prelude.{ℕ, Bool, true, false, ◌+◌, ◌≡◌, ◌≢◌, ◌⊎◌, List, [], ◌∷◌, ◌++◌, length}
use Rattle.std.specs.Prelude.{Result, IfOk, IfErr}
use Rattle.lexical.specs.Piece.{Piece, Close, IsPiece, HasNoPiece}
use Rattle.lexical.specs.Cover.{CoversUpTo, IsCover, width}
use Rattle.pm_span.specs.Extent.{Extent}
use Rattle.pm_token.specs.declared.delimiters.Delimiter.{Delimiter}
use Rattle.pm_stream.specs.Delimited.{delimiter_of}
use Rattle.pm_stream.specs.Events.{Event, Opens, Closes, expansion, Balanced, CanGoOn}
use Rattle.pm_stream.specs.Forest.{Forest, flattening}

-- `parses-to`: the stream's flattening is the expansion of a cover of the source
pub record ParsesTo (base : ℕ) (source : List ℕ) (stream : Forest) : Type 0 where
  pub pieces : List Piece
  pub covers : IsCover pieces source
  pub expands : flattening stream ≡ expansion base pieces

-- whether there are no pieces yet, so that the next one is the first
abbrev pub is_first : List Piece → Bool
is_first [] = true
is_first (piece ∷ pieces) = false

-- the text begins with a closer, and with that closer the events can't go on
pub record HasStrayCloser (first : Bool) (position : ℕ) (events : List Event) (text : List ℕ) : Type 0 where
  pub character : ℕ
  pub front : List ℕ
  pub rest : List ℕ
  pub whole : text ≡ front ++ rest
  pub stands : IsPiece first (Close character) front rest
  pub stray : CanGoOn (events ++ (Closes (delimiter_of character) (position + length front) ∷ [])) → ⊥

-- pieces that can go on cover the source up to the position, where no piece begins or a stray closer does
pub record StopsAt (base : ℕ) (source : List ℕ) (position : ℕ) : Type 0 where
  pub pieces : List Piece
  pub rest : List ℕ
  pub covers : CoversUpTo pieces source rest
  pub at : position ≡ base + width pieces
  pub goes_on : CanGoOn (expansion base pieces)
  pub more : rest ≢ []
  pub stuck : HasNoPiece (is_first pieces) rest ⊎ HasStrayCloser (is_first pieces) position (expansion base pieces) rest

-- the source is covered, its events can go on, and the last opener that no closer matches begins at the position
pub record StaysOpenAt (base : ℕ) (source : List ℕ) (position : ℕ) : Type 0 where
  pub pieces : List Piece
  pub covers : IsCover pieces source
  pub goes_on : CanGoOn (expansion base pieces)
  pub delimiter : Delimiter
  pub front : List Event
  pub back : List Event
  pub split : expansion base pieces ≡ front ++ (Opens delimiter position ∷ back)
  pub closed : Balanced back

-- `fault`: the one position where a source fails to parse
abbrev pub FaultAt : ℕ → List ℕ → ℕ → Type 0
FaultAt base source position = StopsAt base source position ⊎ StaysOpenAt base source position

-- no position of the source is a fault
abbrev pub HasNoFault : ℕ → List ℕ → Type 0
HasNoFault base source = (position : ℕ) → FaultAt base source position → ⊥

-- the source doesn't parse, and no other position is a fault
abbrev pub IsOnlyFault : ℕ → List ℕ → ℕ → Type 0
IsOnlyFault base source position =
    ((stream : Forest) → ParsesTo base source stream → ⊥)
    × ((other : ℕ) → FaultAt base source other → other ≡ position)

-- a value comes only if the source has no fault, and a syntax error has the only fault, as an empty extent
pub record ReportsFault {A E : Type 0} (IfFault : E → (Extent → Type 0) → Type 0) (base : ℕ) (source : List ℕ)
    (result : Result A E) : Type 0 where
  pub apart : IfOk result (λ value. HasNoFault base source)
  pub lex : IfErr result (λ error. IfFault error (λ fault. (fault.lo ≡ fault.hi) × FaultAt base source fault.lo))
  pub only : IfErr result (λ error. IfFault error (λ fault. IsOnlyFault base source fault.lo))
