use Rattle.pm_stream.proofs.ReprintLemmas.{prints_nothing}
use Rattle.pm_stream.proofs.reprinting.PrinterTokenSink.gap.Goals as goal

pub returns : goal.returns
returns c = λ to. prints_nothing c.args.self.now to.before.events to.takes
