use Rattle.declarations.proofs.ExploreLemmas.{first_seen}
use Rattle.declarations.proofs.explore.begun.Goals as goal

pub returns : goal.returns
returns c = λ a b trees e m. first_seen a b trees c.args.first e m
