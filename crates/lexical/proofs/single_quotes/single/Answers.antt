use Rattle.std.proofs.Common.{None}
use Rattle.lexical.proofs.RuleSteps.{then_lacks, then_passes, then_reads}
use Rattle.lexical.proofs.single_quotes.single.Goals as goal

pub returns-in_err-past : goal.returns-in_err-past
returns-in_err-past c = rw c.from_residual.ensures (then_lacks _ _ _ c.in_err-past.ensures)

pub returns-in_err-end : goal.returns-in_err-end
returns-in_err-end c =
    rw c.from_residual-in_err-end.ensures
    (then_reads _ _ c.args.at _ None c.in_ok-past.ensures (then_lacks _ _ _ c.in_err-end.ensures))

pub returns-in_err-past-2 : goal.returns-in_err-past-2
returns-in_err-past-2 c =
    rw c.from_residual-in_err-past-2.ensures
    (then_reads _ _ c.args.at _ None c.in_ok-past.ensures
    (then_reads _ _ _ _ None c.in_ok-end.ensures (then_lacks _ _ _ c.in_err-past-2.ensures)))

pub returns : goal.returns
returns c =
    then_passes _ _ _ _ _ c.in_ok-past.ensures
    (then_passes _ _ _ _ _ c.in_ok-end.ensures (then_passes _ _ _ _ _ c.in_ok-past-2.ensures c.suffix.ensures))
