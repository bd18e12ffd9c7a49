use Rattle.explain.proofs.LoneLemmas.{single_ends, single_inside}
use Rattle.explain.proofs.QuoteLemmas.{unclosed_single}
use Rattle.explain.proofs.quotes.single.Goals as goal

pub single_content-requires-clause-closed : goal.single_content-requires-clause-closed
single_content-requires-clause-closed c =
    single_ends c.args.at c.args.inside c.in-Some.end c.requires.opens c.in-Some.ensures

pub single_content-requires-clause-closes : goal.single_content-requires-clause-closes
single_content-requires-clause-closes c = single_inside c.args.inside c.in-Some.end c.in-Some.ensures

pub returns-in-None : goal.returns-in-None
returns-in-None c = unclosed_single c.args.at c.args.inside c.requires.opens c.in-None.ensures
