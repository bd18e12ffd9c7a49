-- What the errors of the parser say.
use Rattle.std.specs.Prelude.{ℕ, ◌≡◌, List, [], ◌∷◌}
use Rattle.lexical.specs.declared.piece.PieceKind.{PieceKind}
use Rattle.lexical.specs.declared.piece.PieceKind.TheVariants.{FrontMark, Gap, Doc, Opener, Closer, Literal, Mark, Name}
use Rattle.pm_token.specs.declared.errors.ParseError.{ParseError}
use Rattle.pm_token.specs.declared.errors.ParseError.TheVariants.{Lex, MapFull, Memory}
use Rattle.pm_stream.specs.Delimited.{delimiter_of}
use Rattle.pm_stream.specs.Parsing.{FaultAt}
use Rattle.pm_stream.specs.OpenGroups.{Opened, FitsInnermost}

-- the error is a fault at the position and the reason holds, or memory ran out and the reason does not hold
abbrev pub IsFaultFor : ℕ → Type 0 → ParseError → Type 0
IsFaultFor at reason (Lex extent) = (extent ≡ record { lo = at; hi = at }) × reason
IsFaultFor at reason MapFull = ⊥
IsFaultFor at reason (Memory error) = reason → ⊥

-- the piece is a closer that doesn't close the innermost of the open groups
abbrev pub IsStray : PieceKind → List Opened → Type 0
IsStray FrontMark groups = ⊥
IsStray Gap groups = ⊥
IsStray (Doc inner text) groups = ⊥
IsStray (Opener c) groups = ⊥
IsStray (Closer c) groups = FitsInnermost (delimiter_of c) groups → ⊥
IsStray Literal groups = ⊥
IsStray (Mark joint mark) groups = ⊥
IsStray (Name raw name) groups = ⊥

-- the error is a fault where the innermost open group begins. If no group is open, memory ran out
abbrev pub IsOpenFault : List Opened → ParseError → Type 0
IsOpenFault [] error = IsFaultFor 0 ⊥ error
IsOpenFault (group ∷ groups) error = IsFaultFor group.lo (Unit {0}) error

-- the error is the fault of the source, as an empty span, or memory ran out
abbrev pub IsFault : ℕ → List ℕ → ParseError → Type 0
IsFault base source (Lex extent) = (extent.lo ≡ extent.hi) × FaultAt base source extent.lo
IsFault base source MapFull = ⊥
IsFault base source (Memory error) = Unit {0}
