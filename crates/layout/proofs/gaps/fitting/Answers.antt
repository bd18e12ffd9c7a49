use Rattle.std.proofs.Common.{sym, ◌∙◌}
use Rattle.pm_stream.specs.Steps.{step_of}
use Rattle.layout.specs.Writing.{event_of}
use Rattle.layout.proofs.GapLemmas.{given_stays}
use Rattle.layout.proofs.gaps.fitting.Goals as goal

pub returns-in_default-chosen : goal.returns-in_default-chosen
returns-in_default-chosen c =
    rw c.in-Some.is
    (given_stays (event_of (step_of c.in-Some.step)) c.args.chosen _ (sym c.is_joint.ensures ∙ c.if-is_joint.false)
    c.in_default-chosen.not-Nothing)
