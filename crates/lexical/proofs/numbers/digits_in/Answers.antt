use Rattle.std.proofs.Common.{None, sym, ◌∙◌}
use Rattle.std.specs.Char.{is_digit}
use Rattle.lexical.specs.Bytes.{radix}
use Rattle.lexical.specs.Number.{base_digits, is_digit_or_underscore_in, is_underscore}
use Rattle.lexical.specs.Rule.{One, Run}
use Rattle.lexical.proofs.RuleSteps.{before_lacks, before_passes, find_not_before, then_lacks, then_passes}
use Rattle.lexical.proofs.RuleSteps.{then_reads}
use Rattle.lexical.proofs.numbers.digits_in.Goals as goal

pub returns-else-is_next : goal.returns-else-is_next
returns-else-is_next c =
    before_passes _ _ _ _ (then_passes _ _ _ _ _ c.skip.ensures
    (then_passes _ _ _ _ _ c.in_ok-first.ensures c.skip-end.ensures))
    (sym c.is_next.ensures ∙ c.if-is_next.false)

pub returns-in_err-first : goal.returns-in_err-first
returns-in_err-first c =
    let base = radix c.args.base in
    let none = then_reads (Run is_underscore) (base_digits base) c.args.at c.skip.result None c.skip.ensures
    (then_lacks (One (λ d. is_digit d base)) (Run (is_digit_or_underscore_in base)) _ c.in_err-first.ensures) in
    rw (c.from_residual.ensures, find_not_before, none)

pub returns-then-is_next : goal.returns-then-is_next
returns-then-is_next c =
    before_lacks _ _ _ _ (then_passes _ _ _ _ _ c.skip.ensures
    (then_passes _ _ _ _ _ c.in_ok-first.ensures c.skip-end.ensures))
    (sym c.is_next.ensures ∙ c.if-is_next.true)
