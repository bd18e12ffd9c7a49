use Rattle.std.proofs.Common.{ap, subst}
use Rattle.pm_stream.specs.Forest.{Forest}
use Rattle.pm_stream.specs.Trees.{forest, TakesGroup}
use Rattle.pm_stream.proofs.TakenLemmas.{takes_nothing}
use Rattle.pm_stream.proofs.stream.take_group.Goals as goal

pub returns-in-Some : goal.returns-in-Some
returns-in-Some c =
    subst (λ (f : Forest). TakesGroup f c.pop_group.result (forest c.pop_group.new.trees.items))
    (ap (λ v. forest v.items) c.in-Some.ensures.value)
    c.pop_group.ensures

pub returns-in-None : goal.returns-in-None
returns-in-None c = takes_nothing _
