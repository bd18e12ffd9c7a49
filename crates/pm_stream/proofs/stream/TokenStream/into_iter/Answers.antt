use Rattle.std.proofs.Common.{ap, sym, subst, ◌∙◌}
use Rattle.pm_stream.specs.Forest.{IsBuilt}
use Rattle.pm_stream.specs.Trees.{forest}
use Rattle.pm_stream.proofs.TreeLemmas.{built_inside}
use Rattle.pm_stream.proofs.SpanLemmas.{held_trees}
use Rattle.pm_stream.proofs.stream.TokenStream.into_iter.Goals as goal

pub returns-clause-inside : goal.returns-clause-inside
returns-clause-inside c =
    let same = ap forest c.from_vec.ensures.items ∙ c.in_ok-into_list.ensures.value in
    built_inside _ (subst IsBuilt (sym same) c.in_ok-into_list.ensures.built)

pub returns-clause-held : goal.returns-clause-held
returns-clause-held c =
    λ map. held_trees map _ _ (ap forest c.from_vec.ensures.items ∙ c.in_ok-into_list.ensures.value)
