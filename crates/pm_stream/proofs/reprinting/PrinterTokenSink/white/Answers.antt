use Rattle.pm_stream.proofs.ReprintLemmas.{prints_nothing}
use Rattle.pm_stream.proofs.reprinting.PrinterTokenSink.white.Goals as goal

pub returns : goal.returns
returns c = λ can. prints_nothing c.args.self.now can.before.events can.takes
