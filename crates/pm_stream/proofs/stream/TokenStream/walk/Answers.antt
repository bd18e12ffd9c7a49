use Rattle.std.proofs.Common.{[], ap, ◌∙◌}
use Rattle.pm_stream.specs.Steps.{trees_given}
use Rattle.pm_stream.proofs.StepLemmas.{trees_given-onto}
use Rattle.pm_stream.proofs.stream.TokenStream.walk.Goals as goal

pub returns : goal.returns
returns c = ap trees_given c.steps.ensures ∙ trees_given-onto c.args.self.now []
