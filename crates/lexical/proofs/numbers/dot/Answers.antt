use Rattle.std.proofs.Common.{◌∙◌, sym}
use Rattle.lexical.specs.Number.{bars_dot}
use Rattle.lexical.proofs.RuleSteps.{before_lacks, before_passes, find_not_before}
use Rattle.lexical.proofs.numbers.dot.Goals as goal

pub returns-in_err-end : goal.returns-in_err-end
returns-in_err-end c = rw (c.from_residual.ensures, find_not_before, c.in_err-end.ensures)

pub returns-then-is_next : goal.returns-then-is_next
returns-then-is_next c =
    before_lacks bars_dot _ _ _ c.in_ok-end.ensures (sym c.is_next.ensures ∙ c.if-is_next.true)

pub returns-else-is_next : goal.returns-else-is_next
returns-else-is_next c =
    before_passes bars_dot _ _ _ c.in_ok-end.ensures (sym c.is_next.ensures ∙ c.if-is_next.false)
