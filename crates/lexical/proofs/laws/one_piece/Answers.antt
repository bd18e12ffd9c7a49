use Rattle.lexical.proofs.PieceLemmas as pieces
use Rattle.lexical.proofs.laws.one_piece.Goals as goal

pub returns : goal.returns
returns c = pieces.one_piece
