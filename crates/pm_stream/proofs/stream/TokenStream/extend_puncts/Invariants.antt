use Rattle.pm_stream.specs.Building.{PutsIn, split}
use Rattle.pm_stream.specs.declared.stream.TokenTree.TheVariants.{Punct}
use Rattle.pm_stream.proofs.stream.TokenStream.extend_puncts.Given as goal

abbrev pub invariant-loop-punct : goal.invariant-loop-punct
invariant-loop-punct g l = PutsIn (λ punct. split (Punct punct)) l.fn.self l.yielded l.self
