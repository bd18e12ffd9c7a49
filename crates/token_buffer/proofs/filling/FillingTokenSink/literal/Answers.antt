use Rattle.pm_stream.proofs.ReadingLemmas.{on_ok}
use Rattle.token_buffer.proofs.FilledLemmas.{fills_literal}
use Rattle.token_buffer.proofs.filling.FillingTokenSink.literal.Goals as goal

pub returns : goal.returns
returns c =
    on_ok c.push.result (λ step to.
    fills_literal c.args.self.now c.args.lexed to c.push.new.self _ _ (c.bytes-lo.ensures.begins to)
    c.bytes-lo.ensures.ends step) c.push.ensures
