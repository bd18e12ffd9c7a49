use Rattle.token_buffer.proofs.FilledLemmas.{fills_nothing}
use Rattle.token_buffer.proofs.filling.FillingTokenSink.white.Goals as goal

pub returns : goal.returns
returns c = λ can. fills_nothing c.args.self.now can.before can.white.front can.takes
