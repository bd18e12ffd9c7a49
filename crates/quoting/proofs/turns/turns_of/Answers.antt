use Rattle.std.proofs.Common.{sym, ap, ◌∙◌}
use Rattle.std.proofs.lemmas.Option.{MatchOption-at_some}
use Rattle.proc_macro2.specs.Trees.{forest}
use Rattle.quoting.specs.Given.{in_turns}
use Rattle.quoting.specs.Searched.{step_turns}
use Rattle.quoting.proofs.SearchLemmas.{found_later}
use Rattle.quoting.proofs.TurnLemmas.{left_turns, left_turns-steps}
use Rattle.quoting.proofs.turns.turns_of.Goals as goal

pub loop-steps-init : goal.loop-steps-init
loop-steps-init c =
    ap (left_turns (in_turns c.args.holes.now c.args.turns.now)) c.new-steps.ensures
    ∙ left_turns-steps (in_turns c.args.holes.now c.args.turns.now) (forest c.args.trees.now)

pub loop-steps-preserved : goal.loop-steps-preserved
loop-steps-preserved c =
    found_later (step_turns (in_turns c.args.holes.now c.args.turns.now)) _ _ _
    (MatchOption-at_some _ _ _ c.in-Some.is c.in_ok-step.ensures.ok)
    (sym (sym c.in_default-step_turns.is ∙ c.step_turns.ensures))
    ∙ c.loop-steps.invariant
