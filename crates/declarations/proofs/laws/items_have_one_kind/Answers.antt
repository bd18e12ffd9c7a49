use Rattle.declarations.proofs.KindLemmas.{one_kind}
use Rattle.declarations.proofs.laws.items_have_one_kind.Goals as goal

pub returns : goal.returns
returns c = one_kind
