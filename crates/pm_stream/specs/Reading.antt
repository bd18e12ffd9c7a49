-- What the loop over pieces has read so far, and what it has read at the end of the text.
use Rattle.std.specs.Prelude.{ℕ, Bool, ◌≡◌, ◌+◌, List, [], ◌∷◌, ◌++◌, length, reverse, map}
use Rattle.lexical.specs.Cover.{CoversUpTo, width}
use Rattle.lexical.specs.Found.{kind_of}
use Rattle.lexical.specs.Piece.{Piece}
use Rattle.pm_stream.specs.Events.{Event, events_onto, expansion}
use Rattle.pm_stream.specs.Forest.{Forest, flattening}
use Rattle.pm_stream.specs.OpenGroups.{Opened, unclosed_onto}
use Rattle.pm_stream.specs.Parsing.{ParsesTo, is_first}
use Rattle.pm_stream.specs.Taken.{IsTakenTo, Taken, Waiting}
use Rattle.pm_stream.specs.declared.reading.Lexed.{Lexed}

-- pieces cover the source up to the rest, with the events of these open groups and trees. `first` says whether there
-- are no pieces
pub record Reads (base : ℕ) (source rest : List ℕ) (at : ℕ) (first : Bool) (groups : List Opened)
    (trees : Forest) : Type 0 where
  pub pieces : List Piece
  pub covers : CoversUpTo pieces source rest
  pub begins : is_first pieces ≡ first
  pub position : at ≡ base + width pieces
  pub expands : unclosed_onto groups trees [] ≡ expansion base pieces

-- the delimiter of each group, and the position of its opener
abbrev pub openers_of : List Opened → List Waiting
openers_of [] = []
openers_of (x ∷ groups) = (x.delimiter, x.lo) ∷ openers_of groups

-- the sink has taken the events of these open groups and trees, which the program need not build
pub record Reading {S T : Type 0} (opens : T → Waiting) (took : S → Taken T → Type 0) (base : ℕ)
    (source passed : List ℕ) (sink : S) (stack : List T) (groups : List Opened) (trees : Forest) : Type 0 where
  pub around : map opens (reverse stack) ≡ openers_of groups
  pub takes : took sink (record {
    base = base;
    source = source;
    passed = passed;
    opened = reverse stack;
    events = unclosed_onto groups trees [];
  })

-- the sink has taken the events of these open groups and trees, and then more events
pub record ReadsMore {S T : Type 0} (opens : T → Waiting) (took : S → Taken T → Type 0) (base : ℕ)
    (source passed : List ℕ) (sink : S) (stack : List T) (groups : List Opened) (trees : Forest)
    (events : List Event) : Type 0 where
  pub groups_now : List Opened
  pub trees_now : Forest
  pub reads : Reading opens took base source passed sink stack groups_now trees_now
  pub grows : unclosed_onto groups_now trees_now [] ≡ unclosed_onto groups trees events

-- everything before the piece was read
pub record CanRead {S T : Type 0} (opens : T → Waiting) (took : S → Taken T → Type 0) (sink : S) (stack : List T)
    (lexed : Lexed) : Type 0 where
  pub to : IsTakenTo took sink lexed
  pub groups : List Opened
  pub trees : Forest
  pub around : map opens (reverse stack) ≡ openers_of groups
  pub opened : to.before.opened ≡ reverse stack
  pub events : to.before.events ≡ unclosed_onto groups trees []

-- the step read the events of the piece
abbrev pub HasRead : {S T : Type 0} → (T → Waiting) → (S → Taken T → Type 0) → S → S → List T → List T → Lexed → Type 0
HasRead opens took old new stack stack' lexed =
    (can : CanRead opens took old stack lexed)
    → ReadsMore opens took can.to.before.base can.to.before.source
    (can.to.before.passed ++ can.to.is.found.front) new stack' can.groups can.trees
    (events_onto lexed.at (kind_of lexed.piece.kind can.to.is.found.front) can.to.is.found.front [])

-- the source was read up to the rest, and the sink has taken its events up to there
pub record ReadsTo {S T : Type 0} (opens : T → Waiting) (took : S → Taken T → Type 0) (base : ℕ)
    (source rest : List ℕ) (at : ℕ) (first : Bool) (sink : S) (stack : List T) : Type 0 where
  pub groups : List Opened
  pub trees : Forest
  pub passed : List ℕ
  pub whole : source ≡ passed ++ rest
  pub position : at ≡ base + length passed
  pub takes : Reading opens took base source passed sink stack groups trees
  pub reads : Reads base source rest at first groups trees

-- the sink has taken all events of the stream that the source parses to
pub record ReadsAll {S : Type 0} {T : Type 0} (took : S → Taken T → Type 0) (base : ℕ) (source : List ℕ)
    (sink : S) : Type 0 where
  pub stream : Forest
  pub parses : ParsesTo base source stream
  pub takes : took sink
      (record { base = base; source = source; passed = source; opened = []; events = flattening stream })
