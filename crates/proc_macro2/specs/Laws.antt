-- The laws of covers, parsed streams and printed texts. A source is the list of its characters. If a law says that
-- it is a text, its characters are Unicode scalars, as in every `&str`. The other laws are true of all lists of
-- numbers.
use Rattle.std.specs.Prelude.{ℕ, ◌≡◌, ◌⊎◌, ◌↔◌, List, [], ◌∷◌, ◌++◌, IsTrue, IsFalse, codes}
use Rattle.lexical.specs.Text.{begins_with}
use Rattle.lexical.specs.Piece.{Piece}
use Rattle.lexical.specs.Quiet.{ends_quiet}
use Rattle.lexical.specs.Cover.{onto, IsCover}
use Rattle.pm_token.specs.Text.{IsText}
use Rattle.pm_stream.specs.Building.{split}
use Rattle.pm_stream.specs.Forest.{Forest, IsBuilt, chain}
use Rattle.pm_stream.specs.Trees.{GoesInside, alone}
use Rattle.pm_stream.specs.Parsing.{ParsesTo, FaultAt}
use Rattle.pm_stream.specs.Printed.{printed}
use Rattle.pm_stream.specs.Same.{Same}
use Rattle.pm_stream.specs.WellSpaced.{IsWellSpaced}
use Rattle.pm_stream.specs.declared.stream.TokenTree.{TokenTree}

-- ---- one cover

-- a source has at most one cover
abbrev pub OneCover : Type 0
OneCover = (source : List ℕ) (us vs : List Piece) → IsCover us source → IsCover vs source → us ≡ vs

-- a source parses to at most one stream
abbrev pub OneStream : Type 0
OneStream = (base : ℕ) (source : List ℕ) (s t : Forest) → ParsesTo base source s → ParsesTo base source t → s ≡ t

-- a source parses or has a fault
abbrev pub ParsesOrFails : Type 0
ParsesOrFails = (base : ℕ) (source : List ℕ)
    → ((stream : Forest) × ParsesTo base source stream) ⊎ ((position : ℕ) × FaultAt base source position)

-- a source that parses has no fault
abbrev pub NeverBoth : Type 0
NeverBoth = (base : ℕ) (source : List ℕ) (stream : Forest) (position : ℕ)
    → ParsesTo base source stream → FaultAt base source position → ⊥

-- a source has at most one fault
abbrev pub OneFault : Type 0
OneFault = (base : ℕ) (source : List ℕ) (j k : ℕ) → FaultAt base source j → FaultAt base source k → j ≡ k

-- ---- printed streams

-- whether the text parses to the stream, up to spans
pub record Gives (base : ℕ) (text : List ℕ) (stream : Forest) : Type 0 where
  pub parsed : Forest
  pub parses : ParsesTo base text parsed
  pub same : Same stream parsed

-- a built stream comes back from its printed text exactly if it is well spaced
abbrev pub ComesBack : Type 0
ComesBack = (base : ℕ) (stream : Forest) → IsBuilt stream → Gives base (printed stream) stream ↔ IsWellSpaced stream

-- every parsed stream is well spaced
abbrev pub ParsedIsWellSpaced : Type 0
ParsedIsWellSpaced = (base : ℕ) (source : List ℕ) (stream : Forest) → ParsesTo base source stream → IsWellSpaced stream

-- every stream that a source parses to, up to spans, is well spaced
abbrev pub GivenIsWellSpaced : Type 0
GivenIsWellSpaced = (base : ℕ) (source : List ℕ) (stream : Forest) → Gives base source stream → IsWellSpaced stream

-- every stream that a text parses to is built
abbrev pub ParsedIsBuilt : Type 0
ParsedIsBuilt = (base : ℕ) (source : List ℕ) (stream : Forest)
    → IsText source → ParsesTo base source stream → IsBuilt stream

-- the printed text of a built stream is a text
abbrev pub PrintedIsText : Type 0
PrintedIsText = (stream : Forest) → IsBuilt stream → IsText (printed stream)

-- a built stream is well spaced exactly if some text gives it
abbrev pub WellSpacedIsParsed : Type 0
WellSpacedIsParsed = (stream : Forest) → IsBuilt stream
    → ((base : ℕ) × (source : List ℕ) × IsText source × Gives base source stream) ↔ IsWellSpaced stream

-- two built streams that are well spaced are the same up to spans exactly if they print the same text
abbrev pub OneText : Type 0
OneText = (s t : Forest) → IsBuilt s → IsBuilt t → IsWellSpaced s → IsWellSpaced t → Same s t ↔ (printed s ≡ printed t)

-- ---- joined texts

-- two texts with a line feed between them parse to the two streams joined, up to spans, unless the second begins
-- with U+FEFF
abbrev pub JoinedTexts : Type 0
JoinedTexts = (base first second : ℕ) (a b : List ℕ) (s t : Forest) → ParsesTo first a s → ParsesTo second b t
    → IsFalse (begins_with (0xFEFF ∷ []) b) → Gives base (a ++ (codes "\n" ++ b)) (chain s t)

-- ---- broken lines

-- if a source parses, a line feed may be put in after any piece of its cover that is neither a mark nor a number; the
-- stream stays the same, up to spans
abbrev pub BrokenLine : Type 0
BrokenLine = (base first : ℕ) (source : List ℕ) (stream : Forest) (us vs : List Piece) → ParsesTo first source stream
    → IsCover (us ++ vs) source → IsTrue (ends_quiet us) → Gives base (onto us (codes "\n" ++ onto vs [])) stream

-- ---- trees that are put into a stream

-- a tree of a stream goes into another stream whole
abbrev pub TreesStandWhole : Type 0
TreesStandWhole = (tree : TokenTree) → GoesInside tree → split tree ≡ alone tree
