use Rattle.pm_stream.specs.Building.{PutsIn}
use Rattle.pm_stream.proofs.stream.TokenStream.extend_streams.Given as goal

abbrev pub invariant-loop-stream : goal.invariant-loop-stream
invariant-loop-stream g l = PutsIn (λ stream. stream) l.fn.self l.yielded l.self
