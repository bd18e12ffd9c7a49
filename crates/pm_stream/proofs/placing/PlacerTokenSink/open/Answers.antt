use Rattle.std.proofs.Common.{refl, arith}
use Rattle.pm_stream.proofs.PlaceLemmas.{opening_line, placed_open}
use Rattle.pm_stream.proofs.placing.PlacerTokenSink.open.Goals as goal

pub returns : goal.returns
returns c = (
  refl,
  λ can.
      placed_open can.to (c.along-end.ensures can.to.is (opening_line c.args.delimiter _ can.front)) c.args.delimiter
      c.len-index.result (omega (arith, c.args.self.now.trees.ok.0, c.len-index.ensures)) c.in_ok-add.ensures.trees,
)
