use Rattle.declarations.proofs.ExploreLemmas.{then_stuck}
use Rattle.declarations.proofs.explore.stopped.Goals as goal

pub returns : goal.returns
returns c = λ a b trees e h. then_stuck a b trees c.args.first e h
