use Rattle.relayout.proofs.CoverLemmas.{still_cover}
use Rattle.relayout.proofs.laws.pieces_stay.Goals as goal

pub returns : goal.returns
returns c = still_cover
