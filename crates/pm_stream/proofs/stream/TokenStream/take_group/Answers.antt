use Rattle.std.proofs.Common.{ap, subst}
use Rattle.pm_stream.specs.Forest.{IsBuilt}
use Rattle.pm_stream.specs.Trees.{shared_trees}
use Rattle.pm_stream.proofs.TakenLemmas.{IsBuilt-taken}
use Rattle.pm_stream.proofs.stream.TokenStream.take_group.Goals as goal

pub invariant_of-self : goal.invariant_of-self
invariant_of-self c = c.self.invariant

pub invariant_of-self-2 : goal.invariant_of-self-2
invariant_of-self-2 c = IsBuilt-taken _ _ c.take_group.result c.take_group.ensures
    (subst IsBuilt (ap shared_trees c.in-Some.is) c.self.invariant)
