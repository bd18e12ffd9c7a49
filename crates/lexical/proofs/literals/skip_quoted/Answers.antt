use Rattle.std.proofs.Common.{Some}
use Rattle.lexical.proofs.RuleSteps.{either_first, either_reads}
use Rattle.lexical.proofs.literals.skip_quoted.Goals as goal

pub returns-in-Some : goal.returns-in-Some
returns-in-Some c = either_first _ _ c.args.at c.in-Some.end c.in-Some.ensures

pub returns-in-Some-single : goal.returns-in-Some-single
returns-in-Some-single c =
    let end = c.in-Some-single.end in
    either_reads _ _ c.args.at (Some end) c.in_default.ensures
    (either_first _ _ c.args.at end c.in-Some-single.ensures)

pub returns-in-Some-any_string : goal.returns-in-Some-any_string
returns-in-Some-any_string c =
    let end = c.in-Some-any_string.end in
    either_reads _ _ c.args.at (Some end) c.in_default.ensures
    (either_reads _ _ c.args.at (Some end) c.in_default-single.ensures
    (either_first _ _ c.args.at end c.in-Some-any_string.ensures))

pub returns-in-Some-single-2 : goal.returns-in-Some-single-2
returns-in-Some-single-2 c =
    let end = c.in-Some-single-2.end in
    either_reads _ _ c.args.at (Some end) c.in_default.ensures
    (either_reads _ _ c.args.at (Some end) c.in_default-single.ensures
    (either_reads _ _ c.args.at (Some end) c.in_default-any_string.ensures
    (either_first _ _ c.args.at end c.in-Some-single-2.ensures)))

pub returns-in-None : goal.returns-in-None
returns-in-None c =
    let result = c.any_string-in-None.result in
    either_reads _ _ c.args.at result c.in_default.ensures
    (either_reads _ _ c.args.at result c.in_default-single.ensures
    (either_reads _ _ c.args.at result c.in_default-any_string.ensures
    (either_reads _ _ c.args.at result c.in-None.ensures c.any_string-in-None.ensures)))
