use Rattle.std.proofs.Common.{refl}
use Rattle.pm_stream.proofs.PlaceLemmas.{placed_gap}
use Rattle.pm_stream.proofs.placing.PlacerTokenSink.gap.Goals as goal

pub returns : goal.returns
returns c = λ to. placed_gap to.takes to.is.found.front (c.past-self.ensures to.is) refl
