use Rattle.std.proofs.Common.{refl}
use Rattle.lexical.proofs.walk.PieceWalk.next_after_white.Goals as goal

pub returns : goal.returns
returns c = record {
  here = c.pass_white-white.new.self;
  passes = c.pass_white-white.ensures;
  rest = refl;
  found = c.next_piece.ensures.found;
  none = c.next_piece.ensures.none;
  unchanged = c.next_piece.ensures.unchanged;
}
