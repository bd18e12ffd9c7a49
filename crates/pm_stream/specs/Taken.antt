-- What a sink has taken of a text so far, and what its calls require and guarantee.
use Rattle.std.specs.Prelude.{ℕ, Bool, ◌≡◌, ◌⊎◌, ◌+◌, ◌<◌, ◌^◌, List, [], ◌∷◌, ◌++◌, length}
use Rattle.std.specs.Str.{chars, IsUtf8}
use Rattle.lexical.specs.Found.{IsPieceAt, kind_of}
use Rattle.lexical.specs.WhiteRun.{IsPastWhite}
use Rattle.lexical.specs.declared.piece.PieceKind.{PieceKind}
use Rattle.lexical.specs.declared.piece.PieceKind.TheVariants as kinds
use Rattle.pm_token.specs.declared.delimiters.Delimiter.{Delimiter}
use Rattle.pm_stream.specs.Delimited.{closing, opening}
use Rattle.pm_stream.specs.Events.{Closes, Event, Opens, events_onto}
use Rattle.pm_stream.specs.declared.reading.Lexed.{Lexed}

-- an open group: its delimiter and the position of its opener
abbrev pub Waiting : Type 0
Waiting = Delimiter × ℕ

-- what was read of a source: the position where it begins, its characters, those that were read, the open groups, the
-- innermost first, and the events of all tokens that were read
pub record Taken (T : Type 0) : Type 0 where
  pub base : ℕ
  pub source : List ℕ
  pub passed : List ℕ
  pub opened : List T
  pub events : List Event

-- nothing was read yet, of a source that begins at this position
abbrev pub nothing : {T : Type 0} → ℕ → List ℕ → Taken T
nothing base source = record { base = base; source = source; passed = []; opened = []; events = [] }

-- the position up to which the source was read
abbrev pub position : {T : Type 0} → Taken T → ℕ
position taken = taken.base + length taken.passed

-- what was read after these further characters, with these groups open and these further events
abbrev pub past : {T : Type 0} → Taken T → List ℕ → List T → List Event → Taken T
past taken front opened events = record {
  base = taken.base;
  source = taken.source;
  passed = taken.passed ++ front;
  opened = opened;
  events = taken.events ++ events;
}

-- the text begins with the piece, and the position after it is less than 2^32
pub record IsLexed (lexed : Lexed) : Type 0 where
  pub first : Bool
  pub found : IsPieceAt first (chars lexed.text.now) lexed.piece
  pub utf8 : IsUtf8 lexed.text.now
  pub room : lexed.at + lexed.piece.chars < 2 ^ 32

-- the sink has taken everything before the piece
pub record IsTakenTo {S T : Type 0} (took : S → Taken T → Type 0) (sink : S) (lexed : Lexed) : Type 0 where
  pub is : IsLexed lexed
  pub before : Taken T
  pub takes : took sink before
  pub at : lexed.at ≡ position before
  pub source : before.source ≡ before.passed ++ chars lexed.text.now

-- the sink has taken everything before the piece, which is of this kind
abbrev pub CanTake : {S T : Type 0} → (S → Taken T → Type 0) → S → Lexed → PieceKind → Type 0
CanTake took sink lexed kind = IsTakenTo took sink lexed × (lexed.piece.kind ≡ kind)

-- the sink has taken everything before the piece, which is no token
abbrev pub CanSkip : {S T : Type 0} → (S → Taken T → Type 0) → S → Lexed → Type 0
CanSkip took sink lexed =
    IsTakenTo took sink lexed × ((lexed.piece.kind ≡ kinds.FrontMark) ⊎ (lexed.piece.kind ≡ kinds.Gap))

-- the step took the piece as one of this kind
abbrev pub HasTaken : {S T : Type 0} → (S → Taken T → Type 0) → S → S → Lexed → PieceKind → Type 0
HasTaken took old new lexed kind =
    (to : IsTakenTo took old lexed) → took new (past to.before to.is.found.front to.before.opened
    (events_onto lexed.at (kind_of kind to.is.found.front) to.is.found.front []))

-- the sink has taken everything before the text, which begins with exactly `size` ASCII white characters
pub record CanPass {S T : Type 0} (took : S → Taken T → Type 0) (sink : S) (text : List ℕ) (size : ℕ) : Type 0 where
  pub rest : List ℕ
  pub white : IsPastWhite text rest size
  pub before : Taken T
  pub takes : took sink before
  pub source : before.source ≡ before.passed ++ text
  pub room : position before + size < 2 ^ 32

-- the step skipped the ASCII white characters at the start of the text
abbrev pub HasPassed : {S T : Type 0} → (S → Taken T → Type 0) → S → S → List ℕ → ℕ → Type 0
HasPassed took old new text size =
    (can : CanPass took old text size) → took new (past can.before can.white.front can.before.opened [])

-- the sink has taken everything before the piece, which is an opener of one character
pub record CanOpen {S T : Type 0} (took : S → Taken T → Type 0) (sink : S) (lexed : Lexed)
    (delimiter : Delimiter) : Type 0 where
  pub to : IsTakenTo took sink lexed
  pub front : to.is.found.front ≡ opening delimiter
  pub one : length to.is.found.front ≡ 1

-- the step took the piece as the opener of this group
abbrev pub HasOpened : {S T : Type 0} → (T → Waiting) → (S → Taken T → Type 0) → S → S → Lexed → Delimiter → T → Type 0
HasOpened opens took old new lexed delimiter group =
    (opens group ≡ (delimiter, lexed.at))
    × ((can : CanOpen took old lexed delimiter) → took new (past can.to.before can.to.is.found.front
    (group ∷ can.to.before.opened) (Opens delimiter lexed.at ∷ [])))

-- the sink has taken everything before the piece, which is the closer, of one character, of the innermost open group
pub record CanClose {S T : Type 0} (opens : T → Waiting) (took : S → Taken T → Type 0) (sink : S) (lexed : Lexed)
    (delimiter : Delimiter) (group : T) : Type 0 where
  pub to : IsTakenTo took sink lexed
  pub front : to.is.found.front ≡ closing delimiter
  pub one : length to.is.found.front ≡ 1
  pub fits : (opens group).0 ≡ delimiter
  pub outer : List T
  pub innermost : to.before.opened ≡ group ∷ outer

-- the step took the piece as the closer of this group
abbrev pub HasClosed : {S T : Type 0} → (T → Waiting) → (S → Taken T → Type 0) → S → S → Lexed → Delimiter → T → Type 0
HasClosed opens took old new lexed delimiter group =
    (can : CanClose opens took old lexed delimiter group) → took new (past can.to.before can.to.is.found.front
    can.outer (Closes delimiter (lexed.at + 1) ∷ []))
