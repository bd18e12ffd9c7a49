use Rattle.std.proofs.Common.{refl}
use Rattle.pm_stream.proofs.ReprintLemmas.{prints_one}
use Rattle.pm_stream.proofs.reprinting.PrinterTokenSink.mark.Goals as goal

pub returns : goal.returns
returns c = λ to.
    prints_one c.args.self.now (record { text_out = c.write_char.new.self.text_out; gap = _ }) _ _
    c.in_ok-write_char.ensures.ok refl refl to.before.events to.takes
