use Rattle.std.proofs.Common.{true, refl}
use Rattle.pm_stream.specs.PrintedTree.{ending}
use Rattle.pm_stream.proofs.ReprintLemmas.{prints_one}
use Rattle.pm_stream.proofs.reprinting.PrinterTokenSink.close.Goals as goal

pub returns : goal.returns
returns c = λ can.
    prints_one c.args.self.now (record { text_out = c.push_ending.new.text_out; gap = true }) _
    (ending c.args.delimiter)
    c.in_ok-push_ending.ensures refl refl can.to.before.events can.to.takes
