use Rattle.std.proofs.Common.{refl}
use Rattle.pm_stream.proofs.ReprintLemmas.{prints_one}
use Rattle.pm_stream.proofs.reprinting.PrinterTokenSink.open.Goals as goal

pub returns : goal.returns
returns c = (
  refl,
  λ can.
      prints_one c.args.self.now (record { text_out = c.write_opening.new.self.text_out; gap = c.is_brace-self.result })
      _ _
      c.in_ok-write_opening.ensures.ok refl c.is_brace-self.ensures can.to.before.events can.to.takes,
)
