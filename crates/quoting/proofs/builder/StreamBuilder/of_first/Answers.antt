use Rattle.std.proofs.Common.{sym, subst}
use Rattle.proc_macro2.specs.Forest.{IsBuilt}
use Rattle.proc_macro2.specs.Trees.{forest}
use Rattle.quoting.proofs.BuilderLemmas.{built_take}
use Rattle.quoting.proofs.builder.StreamBuilder.of_first.Goals as goal

pub invariant_of-builder : goal.invariant_of-builder
invariant_of-builder c =
    subst (λ ts. IsBuilt (forest ts)) (sym c.in_ok-rest.ensures.items)
    (built_take c.args.count c.args.list.items c.requires.built)
