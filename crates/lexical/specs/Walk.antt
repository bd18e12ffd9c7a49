-- Steps of a walk over the pieces of a text.
use Rattle.std.specs.Prelude.{◌≡◌, ◌+◌, ◌<◌, ◌++◌, ◌&&◌, ◌==◌, IfNone, IfSome, List, ℕ, false, length}
use Rattle.std.specs.Str.{chars, IsUtf8}
use Rattle.lexical.specs.Found.{kind_of, LendsText}
use Rattle.lexical.specs.Piece.{HasNoPiece, IsPiece}
use Rattle.lexical.specs.WhiteRun.{SplitsWhite}
use Rattle.lexical.specs.declared.walk.PlacedPiece.{PlacedPiece}
use Rattle.lexical.specs.declared.walk.PieceWalk.{PieceWalk}
use Rattle.lexical.specs.declared.walk.Spaced.{Spaced}

-- whether `next` is the next piece of the walk `at`, with its text and byte offset, and `to` is the walk after it. Only
-- the first piece can be at byte offset 0
pub record IsNext (at : PieceWalk) (next : PlacedPiece) (to : PieceWalk) : Type 0 where
  pub whole : chars at.rest.now ≡ chars next.text.now ++ chars to.rest.now
  pub joined : at.rest.now ≡ next.text.now ++ to.rest.now
  pub shorter : length to.rest.now < length at.rest.now
  pub stands : IsPiece at.at_front (kind_of next.piece.kind (chars next.text.now)) (chars next.text.now)
      (chars to.rest.now)
  pub bytes : next.piece.bytes ≡ length next.text.now
  pub count : next.piece.chars ≡ length (chars next.text.now)
  pub lends : LendsText next.piece.kind
  pub utf8 : IsUtf8 next.text.now
  pub byte_offset : next.byte_offset ≡ at.byte_offset
  pub past : to.byte_offset ≡ at.byte_offset + length next.text.now
  pub front_after : to.at_front ≡ false

-- whether `white` is all the white characters at the start of the walk `at`, and `to` is the walk after them
pub record PassesWhite (at : PieceWalk) (white : List ℕ) (to : PieceWalk) : Type 0 where
  pub splits : SplitsWhite at.rest.now white to.rest.now
  pub past : to.byte_offset ≡ at.byte_offset + length white
  pub front_after : to.at_front ≡ (at.at_front && (length white == 0))

-- whether `next` is the run of white characters at the start of the walk `at`, with the next piece if there is one.
-- `to` is the walk after both
pub record IsSpaced (at : PieceWalk) (next : Spaced) (to : PieceWalk) : Type 0 where
  pub here : PieceWalk
  pub passes : PassesWhite at next.white.now here
  pub rest : next.rest.now ≡ here.rest.now
  pub found : IfSome next.piece (λ piece. IsNext here piece to)
  pub none : IfNone next.piece (HasNoPiece here.at_front (chars here.rest.now))
  pub unchanged : IfNone next.piece (to ≡ here)
