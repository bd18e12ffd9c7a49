use Rattle.std.proofs.Common.{◌≡◌, None, codes, subst}
use Rattle.std.specs.Str.{chars}
use Rattle.std.proofs.lemmas.Bool.{both_ways}
use Rattle.lexical.specs.Number.{number}
use Rattle.lexical.specs.Rule.{find}
use Rattle.lexical.specs.declared.bytes.Base.TheVariants.{Binary, Octal, Hexadecimal}
use Rattle.lexical.proofs.RuleSteps.{past_text, then_passes}
use Rattle.explain.proofs.NumberLemmas.{none_in, no_prefix, one_none, run_stops, decimal_end, bad_end_decimal}
use Rattle.explain.proofs.NumberLemmas.{digit_none}
use Rattle.explain.proofs.numbers.number.Goals as goal

pub no_based_number-requires-clause-none : goal.no_based_number-requires-clause-none
no_based_number-requires-clause-none c =
    none_in Hexadecimal (chars c.in-Some.inside.rest.now)
    (subst (λ t. find number t ≡ None) (past_text (codes "0x") c.args.at c.in-Some.inside c.in-Some.ensures).0
    c.requires.none)

pub no_based_number-requires-in-Some-past-clause-none : goal.no_based_number-requires-in-Some-past-clause-none
no_based_number-requires-in-Some-past-clause-none c =
    none_in Octal (chars c.in-Some-past.inside.rest.now)
    (subst (λ t. find number t ≡ None) (past_text (codes "0o") c.args.at c.in-Some-past.inside c.in-Some-past.ensures).0
    c.requires.none)

pub no_based_number-requires-in-Some-past-2-clause-none : goal.no_based_number-requires-in-Some-past-2-clause-none
no_based_number-requires-in-Some-past-2-clause-none c =
    none_in Binary (chars c.in-Some-past-2.inside.rest.now)
    (subst (λ t. find number t ≡ None)
    (past_text (codes "0b") c.args.at c.in-Some-past-2.inside c.in-Some-past-2.ensures).0
    c.requires.none)

pub past_bad_end-requires-clause-none : goal.past_bad_end-requires-clause-none
past_bad_end-requires-clause-none c =
    decimal_end c.args.at c.skip-end.result
    (no_prefix _ c.in_default.ensures c.in_default-past.ensures c.in_default-past-2.ensures)
    c.requires.none (then_passes _ _ c.args.at c.in-Some-one.first c.skip-end.result c.in-Some-one.ensures
    c.skip-end.ensures)

pub past_bad_end-requires-clause-digit : goal.past_bad_end-requires-clause-digit
past_bad_end-requires-clause-digit c =
    digit_none (chars c.skip-end.result.rest.now) (run_stops _ c.in-Some-one.first c.skip-end.result c.skip-end.ensures)

pub returns : goal.returns
returns c =
    bad_end_decimal c.args.at c.skip-end.result c.past_bad_end.result
    (no_prefix _ c.in_default.ensures c.in_default-past.ensures c.in_default-past-2.ensures)
    (then_passes _ _ c.args.at c.in-Some-one.first c.skip-end.result c.in-Some-one.ensures c.skip-end.ensures)
    c.past_bad_end.ensures

pub unreachable-requires : goal.unreachable-requires
unreachable-requires c = both_ways _ (one_none _ _ c.in_default-one.ensures) c.requires.digit
