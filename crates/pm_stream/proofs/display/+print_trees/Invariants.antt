use Rattle.std.proofs.Common.{◌≡◌, ℕ, ◌≤◌, List, ◌++◌, length}
use Rattle.std.specs.Fmt.{HasWritten, IsPlainFormatter}
use Rattle.std.specs.Str.{encode_utf8_all}
use Rattle.pm_stream.specs.Printed.{printed_after}
use Rattle.pm_stream.specs.Steps.{steps}
use Rattle.pm_stream.specs.Trees.{forest}
use Rattle.pm_stream.proofs.PrintLemmas.{steps_text}
use Rattle.pm_stream.proofs.display.+print_trees.Given as goal

abbrev pub decreases-print_trees : goal.decreases-print_trees
decreases-print_trees g l = length (steps (forest l.trees.now))

abbrev pub invariant-loop-steps : goal.invariant-loop-steps
invariant-loop-steps g l = record {
  within : length l.steps ≤ length (steps (forest l.fn.trees));
  written :
      IsPlainFormatter l.initial.f
      → (done : List ℕ)
      × HasWritten g.W.Write.write_str_gives l.initial.f (encode_utf8_all done) l.f
      × (done ++ steps_text l.gap l.steps ≡ printed_after l.fn.within (forest l.fn.trees));
}

abbrev pub decreases-loop-steps : goal.decreases-loop-steps
decreases-loop-steps g l = length l.steps
