use Rattle.std.proofs.Common.{sym, ◌∙◌}
use Rattle.std.specs.Str.{chars}
use Rattle.pm_token.proofs.WholeLemmas.{minus_digit, minus_other}
use Rattle.pm_token.proofs.literals.Literal.is_whole.Goals as goal

pub returns-then-begins_with_digit : goal.returns-then-begins_with_digit
returns-then-begins_with_digit c =
    minus_digit (chars c.args.text.now) (chars c.in-Some.number.now) c.is_literal.result c.in-Some.ensures.split
    (sym c.begins_with_digit.ensures ∙ c.if-begins_with_digit.true) c.is_literal.ensures

pub returns-else-begins_with_digit : goal.returns-else-begins_with_digit
returns-else-begins_with_digit c =
    minus_other (chars c.args.text.now) (chars c.in-Some.number.now) c.begins_with_digit.result c.in-Some.ensures.split
    (sym c.begins_with_digit.ensures ∙ c.if-begins_with_digit.false) c.if-begins_with_digit.false
