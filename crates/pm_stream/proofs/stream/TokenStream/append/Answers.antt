use Rattle.std.proofs.Common.{ap, subst, sym, ◌∙◌}
use Rattle.pm_stream.specs.Forest.{IsBuilt, chain}
use Rattle.pm_stream.specs.Trees.{shared_trees}
use Rattle.pm_stream.proofs.BuildingLemmas.{built_after, joined_nil}
use Rattle.pm_stream.proofs.stream.TokenStream.append.Goals as goal

pub invariant_of-self : goal.invariant_of-self
invariant_of-self c =
    built_after c.append_shared.result _ _ _ c.append_shared.ensures.ok c.append_shared.ensures.err
    c.self.invariant (subst IsBuilt (ap shared_trees c.in-Some.is) c.more.invariant)

pub returns-in-None-clause-ok : goal.returns-in-None-clause-ok
returns-in-None-clause-ok c =
    sym (joined_nil c.args.self.now) ∙ ap (chain c.args.self.now) (ap shared_trees (sym c.in-None.is) ∙ c.more.view_is)
