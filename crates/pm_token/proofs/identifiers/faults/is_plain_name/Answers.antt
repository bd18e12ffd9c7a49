use Rattle.std.proofs.Common.{◌∙◌, rules, sym}
use Rattle.std.proofs.lemmas.Bool.{eqb-true}
use Rattle.pm_token.proofs.PlainNameLemmas.{plain_no_fault}
use Rattle.pm_token.proofs.identifiers.faults.is_plain_name.Goals as goal

pub returns : goal.returns
returns c = λ counted.
    plain_no_fault c.in-Some.first.now c.in-Some.rest.now c.args.text.now (search rules)
    (sym c.begins_plain.ensures ∙ c.if-not-begins_plain.false) (sym c.count_plain.ensures ∙ eqb-true _ _ counted)
