use Rattle.pm_stream.specs.Building.{PutsIn, split}
use Rattle.pm_stream.proofs.stream.TokenStream.extend_trees.Given as goal

abbrev pub invariant-loop-tree : goal.invariant-loop-tree
invariant-loop-tree g l = PutsIn split l.fn.self l.yielded l.self
