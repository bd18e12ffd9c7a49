use Rattle.std.proofs.Common.{◌++◌, [], refl, ap}
use Rattle.pm_stream.specs.Printed.{space}
use Rattle.pm_stream.proofs.ReprintLemmas.{prints_one}
use Rattle.pm_stream.proofs.reprinting.PrinterTokenSink.literal.Goals as goal

pub returns : goal.returns
returns c = λ to.
    prints_one c.args.self.now (record { text_out = c.write.new.self.text_out; gap = _ }) _ _ c.in_ok-write.ensures.ok
    (ap (λ x. (space c.args.self.now.gap ++ x) ++ []) (c.own_text.ensures to.is)) refl to.before.events to.takes
