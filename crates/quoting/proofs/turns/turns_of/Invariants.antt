use Rattle.std.proofs.Common.{◌≡◌, length}
use Rattle.proc_macro2.specs.Trees.{forest}
use Rattle.quoting.specs.Given.{in_turns}
use Rattle.quoting.specs.Turns.{turns_of}
use Rattle.quoting.proofs.TurnLemmas.{left_turns}
use Rattle.quoting.proofs.turns.turns_of.Given as goal

abbrev pub invariant-loop-steps : goal.invariant-loop-steps
invariant-loop-steps l =
    left_turns (in_turns l.holes l.turns) l.steps ≡ turns_of (in_turns l.fn.holes l.fn.turns) (forest l.fn.trees)

abbrev pub decreases-loop-steps : goal.decreases-loop-steps
decreases-loop-steps l = length l.steps
