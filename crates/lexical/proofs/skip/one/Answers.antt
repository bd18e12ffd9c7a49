use Rattle.std.proofs.Common.{true, false, sym}
use Rattle.lexical.proofs.RuleSteps.{one_ends, one_lacks, one_passes}
use Rattle.lexical.proofs.skip.one.Goals as goal

pub returns-in_err-c : goal.returns-in_err-c
returns-in_err-c g c = λ test says. rw c.from_residual.ensures (one_ends test _ c.in_err-c.ensures)

pub returns-then-passes : goal.returns-then-passes
returns-then-passes g c =
    λ test says. one_passes test c.in_ok-c.c c.args.at c.in_ok-c.after c.in_ok-c.ensures.0 c.in_ok-c.ensures.1
    (sym (says c.in_ok-c.c true c.if-passes.ensures))

pub returns : goal.returns
returns g c =
    λ test says. one_lacks test c.in_ok-c.c _ _ c.in_ok-c.ensures.0 (sym (says c.in_ok-c.c false c.if-passes.ensures))
