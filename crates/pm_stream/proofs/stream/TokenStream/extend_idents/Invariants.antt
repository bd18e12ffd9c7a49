use Rattle.pm_stream.specs.Building.{PutsIn, split}
use Rattle.pm_stream.specs.declared.stream.TokenTree.TheVariants.{Ident}
use Rattle.pm_stream.proofs.stream.TokenStream.extend_idents.Given as goal

abbrev pub invariant-loop-ident : goal.invariant-loop-ident
invariant-loop-ident g l = PutsIn (λ ident. split (Ident ident)) l.fn.self l.yielded l.self
