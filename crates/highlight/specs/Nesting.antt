-- How the code represents the openers that wait.
use Rattle.std.specs.Prelude.{ℕ, ◌≡◌, Bool, false, ◌==◌, ◌||◌, List, [], ◌∷◌, IsTrue, if◌then◌else◌, reverse}
use Rattle.lexical.specs.Delimiter.{is_closer}
use Rattle.lexical.specs.declared.piece.PieceKind.{PieceKind}
use Rattle.lexical.specs.declared.piece.PieceKind.TheVariants as kinds
use Rattle.highlight.specs.Delimiters.{Waiting}
use Rattle.highlight.specs.declared.nesting.Opener.{Opener}
use Rattle.highlight.specs.declared.nesting.Awaited.{Awaited}

-- the openers in the form of `Waiting`, from a list that has the innermost first
abbrev pub outward : List Opener → List Waiting
outward [] = []
outward (opener ∷ around) = record { closer = opener.closer; index = opener.index } ∷ outward around

-- the openers in the form of `Waiting`, from the code's list, which has the innermost last
abbrev pub waiting_of : List Opener → List Waiting
waiting_of openers = outward (reverse openers)

-- whether some opener waits for this closer, by the flags
abbrev pub flag : ℕ → Awaited → Bool
flag closer awaited =
    if closer == 41 then awaited.round else (if closer == 93 then awaited.square else awaited.curly)

-- the flags say for which closers some opener waits, and each opener keeps the flags from before it
abbrev pub Know : Awaited → List Opener → Type 0
Know awaited [] = (c : ℕ) → flag c awaited ≡ false
Know awaited (opener ∷ around) =
    ((c : ℕ) → IsTrue (is_closer c) → flag c awaited ≡ ((opener.closer == c) || flag c opener.around))
    × Know opener.around around

pub record IsAwaited (awaited : Awaited) (openers : List Opener) : Type 0 where
  pub know : Know awaited (reverse openers)

-- a piece that is a closer has one of the three characters for it
abbrev pub ClosesByCloser : PieceKind → Type 0
ClosesByCloser kinds.FrontMark = Unit {0}
ClosesByCloser kinds.Gap = Unit {0}
ClosesByCloser (kinds.Doc inner text) = Unit {0}
ClosesByCloser (kinds.Opener c) = Unit {0}
ClosesByCloser (kinds.Closer c) = IsTrue (is_closer c)
ClosesByCloser kinds.Literal = Unit {0}
ClosesByCloser (kinds.Mark joint mark) = Unit {0}
ClosesByCloser (kinds.Name raw name) = Unit {0}
