use Rattle.explain.proofs.OneExplanationLemmas as lemmas
use Rattle.explain.proofs.laws.one_explanation.Goals as goal

pub returns : goal.returns
returns c = lemmas.one_explanation
