use Rattle.std.proofs.Common.{◌∙◌, sym, subst}
use Rattle.pm_stream.specs.Forest.{IsBuilt}
use Rattle.pm_stream.proofs.TreeLemmas.{built_inside}
use Rattle.pm_stream.proofs.SpanLemmas.{held_trees}
use Rattle.pm_stream.proofs.stream.TokenStream.trees.Goals as goal

pub returns-clause-inside : goal.returns-clause-inside
returns-clause-inside c = built_inside _ (subst IsBuilt (sym c.listed_trees.ensures) c.self.invariant)

pub returns-clause-held : goal.returns-clause-held
returns-clause-held c = λ map. held_trees map _ _ (c.listed_trees.ensures ∙ c.self.view_is)
