use Rattle.std.proofs.Common.{Some}
use Rattle.lexical.proofs.RuleSteps.{either_first, either_reads}
use Rattle.lexical.proofs.numbers.based_number.Goals as goal

pub returns-in-Some : goal.returns-in-Some
returns-in-Some c = either_first _ _ c.args.at c.in-Some.end c.in-Some.ensures

pub returns-in-Some-prefix_and_digits : goal.returns-in-Some-prefix_and_digits
returns-in-Some-prefix_and_digits c =
    let end = c.in-Some-prefix_and_digits.end in
    either_reads _ _ c.args.at (Some end) c.in_default.ensures
    (either_first _ _ c.args.at end c.in-Some-prefix_and_digits.ensures)

pub returns-in-None : goal.returns-in-None
returns-in-None c =
    let result = c.prefix_and_digits-in-None.result in
    either_reads _ _ c.args.at result c.in_default.ensures
    (either_reads _ _ c.args.at result c.in-None.ensures c.prefix_and_digits-in-None.ensures)
