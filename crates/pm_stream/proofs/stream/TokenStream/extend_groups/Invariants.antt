use Rattle.pm_stream.specs.Building.{PutsIn, split}
use Rattle.pm_stream.specs.declared.stream.TokenTree.TheVariants.{Group}
use Rattle.pm_stream.proofs.stream.TokenStream.extend_groups.Given as goal

abbrev pub invariant-loop-group : goal.invariant-loop-group
invariant-loop-group g l = PutsIn (λ group. split (Group group)) l.fn.self l.yielded l.self
