use Rattle.pm_stream.proofs.ReadingLemmas.{on_ok}
use Rattle.pm_stream.proofs.reprinting.PrinterTokenSink.doc.Goals as goal

pub returns : goal.returns
returns c = on_ok c.push_doc.result (λ step to. step _ _ to.before.events to.takes) c.push_doc.ensures.ok
