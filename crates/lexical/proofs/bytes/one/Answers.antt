use Rattle.std.proofs.Common.{◌∙◌, sym}
use Rattle.lexical.specs.Bytes.{is_in}
use Rattle.lexical.proofs.RuleSteps.{one_ends, one_lacks, one_passes}
use Rattle.lexical.proofs.bytes.one.Goals as goal

pub returns-in_err-c : goal.returns-in_err-c
returns-in_err-c c = rw c.from_residual.ensures (one_ends (is_in c.args.class) _ c.in_err-c.ensures)

pub returns-then-holds : goal.returns-then-holds
returns-then-holds c =
    one_passes (is_in c.args.class) c.in_ok-c.c c.args.at c.in_ok-c.after c.in_ok-c.ensures.0 c.in_ok-c.ensures.1
    (sym c.holds.ensures ∙ c.if-holds.true)

pub returns-else-holds : goal.returns-else-holds
returns-else-holds c =
    one_lacks (is_in c.args.class) c.in_ok-c.c _ _ c.in_ok-c.ensures.0 (sym c.holds.ensures ∙ c.if-holds.false)
