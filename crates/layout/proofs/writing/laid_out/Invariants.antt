use Rattle.std.proofs.Common.{length}
use Rattle.layout.specs.Writing.{before_of, step_before}
use Rattle.layout.proofs.HeldLemmas.{HeldDot}
use Rattle.layout.proofs.WrittenLemmas.{WritesOn}
use Rattle.layout.proofs.writing.laid_out.Given as goal

-- What is written so far leads to the text that the chooser's gaps for the remaining steps make. Only a dot is held
-- back.
abbrev pub invariant-loop-steps : goal.invariant-loop-steps
invariant-loop-steps g l =
    HeldDot l.held (before_of l.before)
    × WritesOn g.C.Chooser.gap_gives l.fn.chooser l.fn.stream l.text l.held (step_before l.before) l.depth l.steps
    l.chooser

abbrev pub decreases-loop-steps : goal.decreases-loop-steps
decreases-loop-steps g l = length l.steps
