use Rattle.explain.proofs.NumberLemmas.{one_none, end_none, bad_first, bad_later, bad_end_based, no_digits}
use Rattle.explain.proofs.numbers.no_based_number.Goals as goal

pub past_bad_end-requires-clause-none : goal.past_bad_end-requires-clause-none
past_bad_end-requires-clause-none c =
    end_none c.args.base c.args.at c.args.inside c.skip-start.result c.requires.prefix c.skip-start.ensures
    c.in-Some.first c.skip-end.result c.in-Some.ensures c.skip-end.ensures c.in-None-one.ensures c.requires.none

pub past_bad_end-requires-clause-digit : goal.past_bad_end-requires-clause-digit
past_bad_end-requires-clause-digit c = one_none _ _ c.in-None-one.ensures

pub returns-in-Some-one : goal.returns-in-Some-one
returns-in-Some-one c =
    bad_later c.args.base c.args.at c.args.inside c.skip-start.result c.requires.prefix c.skip-start.ensures
    c.in-Some.first c.skip-end.result c.in-Some.ensures c.skip-end.ensures c.in-Some-one.after c.in-Some-one.ensures

pub returns-in-None-one : goal.returns-in-None-one
returns-in-None-one c =
    bad_end_based c.args.base c.args.at c.args.inside c.skip-start.result c.requires.prefix c.skip-start.ensures
    c.in-Some.first c.skip-end.result c.in-Some.ensures c.skip-end.ensures c.past_bad_end.result c.in-None-one.ensures
    c.past_bad_end.ensures

pub returns-in-Some-one-2 : goal.returns-in-Some-one-2
returns-in-Some-one-2 c =
    bad_first c.args.base c.args.at c.args.inside c.skip-start.result c.requires.prefix c.skip-start.ensures
    c.in-Some-one-2.after c.in-None.ensures c.in-Some-one-2.ensures

pub returns-in-None-one-2 : goal.returns-in-None-one-2
returns-in-None-one-2 c =
    no_digits c.args.base c.args.at c.args.inside c.skip-start.result c.requires.prefix c.skip-start.ensures
    c.in-None.ensures c.in-None-one-2.ensures
