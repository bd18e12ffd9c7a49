use Rattle.lexical.proofs.RuleSteps.{else_first, else_reads, then_lacks, then_passes, then_reads}
use Rattle.lexical.proofs.numbers.decimal.Goals as goal

pub returns-in_err-after : goal.returns-in_err-after
returns-in_err-after c = rw c.from_residual.ensures (then_lacks _ _ _ c.in_err-after.ensures)

pub returns-in-Some : goal.returns-in-Some
returns-in-Some c =
    then_passes _ _ _ _ _ c.in_ok-after.ensures
    (else_first _ _ c.in_ok-after.after c.in-Some.end c.in-Some.ensures)

pub returns-in-None : goal.returns-in-None
returns-in-None c =
    then_reads _ _ _ _ c.end.result c.in_ok-after.ensures
    (else_reads _ _ c.in_ok-after.after c.end.result c.in-None.ensures c.end.ensures)
