use Rattle.explain.proofs.NoPieceLemmas as lemmas
use Rattle.explain.proofs.laws.no_piece.Goals as goal

pub returns : goal.returns
returns c = λ x first kind f p r q s holds piece. lemmas.no_piece first kind q s piece x f p r holds
