use Rattle.std.proofs.Common.{◌≡◌, take, refl, arith}
use Rattle.std.proofs.lemmas.Grind.{common_steps}
use Rattle.std.proofs.lemmas.Str.{IsUtf8-had}
use Rattle.lexical.proofs.PieceFacts.{piece_boundary}
use Rattle.lexical.proofs.WalkLemmas.{next_is}
use Rattle.lexical.proofs.walk.PieceWalk.next_piece.Goals as goal

pub range-requires-clause-end_boundary : goal.range-requires-clause-end_boundary
range-requires-clause-end_boundary c =
    piece_boundary _ c.args.self.now.rest.now c.in_ok-piece.piece (IsUtf8-had _ c.args.self.now.text)
    c.in_ok-piece.ensures.found

pub range_from-requires : goal.range_from-requires
range_from-requires c =
    λ _. piece_boundary _ c.args.self.now.rest.now c.in_ok-piece.piece (IsUtf8-had _ c.args.self.now.text)
    c.in_ok-piece.ensures.found

pub returns-clause-found : goal.returns-clause-found
returns-clause-found c =
    let n = c.in_ok-piece.piece.bytes in
    let cut : c.range.result.now ≡ take n c.args.self.now.rest.now = grind (arith, common_steps) in
    next_is c.args.self.now _ _ (IsUtf8-had _ c.args.self.now.text) c.in_ok-piece.ensures.found
    cut c.range_from.ensures.value (omega (arith, c.range.ensures.len)) c.range.utf8 refl refl refl

pub overflow_add-self : goal.overflow_add-self
overflow_add-self c = omega (arith, c.args.self.now.room, c.range_from.ensures.len)

pub returns-in_err-piece-clause-none : goal.returns-in_err-piece-clause-none
returns-in_err-piece-clause-none c = rw c.from_residual.ensures c.in_err-piece.ensures.none

pub returns-in_err-piece-clause-unchanged : goal.returns-in_err-piece-clause-unchanged
returns-in_err-piece-clause-unchanged c = rw c.from_residual.ensures refl

pub returns-in_err-piece-clause-found : goal.returns-in_err-piece-clause-found
returns-in_err-piece-clause-found c = rw c.from_residual.ensures tt
