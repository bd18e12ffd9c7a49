use Rattle.explain.proofs.OnePlaceLemmas as lemmas
use Rattle.explain.proofs.laws.one_place.Goals as goal

pub returns : goal.returns
returns c = lemmas.one_place
