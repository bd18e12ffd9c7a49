use Rattle.explain.proofs.LoneLemmas.{digits_end}
use Rattle.explain.proofs.QuoteLemmas.{from_digit}
use Rattle.explain.proofs.quotes.digit_lifetime.Goals as goal

pub single_content-requires-clause-closed : goal.single_content-requires-clause-closed
single_content-requires-clause-closed c =
    (digits_end c.args.at c.args.inside c.skip-end.result c.in-Some.after c.requires.quote c.in-Some.ensures
    c.args.first
    c.requires.digit c.skip-end.ensures).0

pub single_content-requires-clause-closes : goal.single_content-requires-clause-closes
single_content-requires-clause-closes c =
    (digits_end c.args.at c.args.inside c.skip-end.result c.in-Some.after c.requires.quote c.in-Some.ensures
    c.args.first
    c.requires.digit c.skip-end.ensures).1

pub returns-in-None : goal.returns-in-None
returns-in-None c =
    from_digit c.args.at c.args.inside c.args.first c.skip-end.result c.requires.quote c.requires.digit
    c.skip-end.ensures c.in-None.ensures
