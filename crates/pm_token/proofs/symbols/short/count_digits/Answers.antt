use Rattle.std.proofs.Common.{ap, sym, ◌∙◌, arith}
use Rattle.std.specs.Fmt.{decimal}
use Rattle.std.proofs.Common.{length}
use Rattle.std.proofs.lemmas.Fmt.{decimal_digit}
use Rattle.pm_token.proofs.DigitLemmas.{digits_count}
use Rattle.pm_token.proofs.symbols.short.count_digits.Goals as goal

pub returns-then-value-eq0 : goal.returns-then-value-eq0
returns-then-value-eq0 c =
    sym (ap (λ n. length (decimal n)) c.if-value-eq0.true ∙ ap length (decimal_digit 0 (omega arith)))

pub returns : goal.returns
returns c = digits_count c.args.value c.ilog10.result c.ranges.value.fits c.ilog10.ensures.power_le
    c.ilog10.ensures.next_power_gt
