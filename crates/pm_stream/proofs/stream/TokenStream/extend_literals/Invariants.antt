use Rattle.pm_stream.specs.Building.{PutsIn, split}
use Rattle.pm_stream.specs.declared.stream.TokenTree.TheVariants.{Literal}
use Rattle.pm_stream.proofs.stream.TokenStream.extend_literals.Given as goal

abbrev pub invariant-loop-literal : goal.invariant-loop-literal
invariant-loop-literal g l = PutsIn (λ literal. split (Literal literal)) l.fn.self l.yielded l.self
