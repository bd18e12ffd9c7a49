use Rattle.explain.proofs.ExclusiveLemmas as lemmas
use Rattle.explain.proofs.laws.one_reason.Goals as goal

pub returns : goal.returns
returns c = lemmas.one_reason
