use Rattle.token_buffer.proofs.FilledLemmas.{fills_nothing}
use Rattle.token_buffer.proofs.filling.FillingTokenSink.gap.Goals as goal

pub returns : goal.returns
returns c = λ to. fills_nothing c.args.self.now to.before to.is.found.front to.takes
