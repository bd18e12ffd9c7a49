use Rattle.explain.proofs.LoneLemmas.{name_here}
use Rattle.explain.proofs.QuoteLemmas.{no_raw_lifetime, opens_single}
use Rattle.explain.proofs.quotes.quote.Goals as goal

pub lifetime-requires-clause-raw : goal.lifetime-requires-clause-raw
lifetime-requires-clause-raw c = no_raw_lifetime c.args.at c.in-Some.inner c.in-Some.ensures c.in_default-name.ensures

pub unreachable-requires : goal.unreachable-requires
unreachable-requires c =
    name_here c.args.at c.args.inside c.in-Some.inner c.requires.opens c.in-Some.ensures c.in_default-name-2.ensures

pub single-requires-clause-opens : goal.single-requires-clause-opens
single-requires-clause-opens c =
    opens_single c.args.at c.args.inside c.requires.opens c.in_default-name-3.ensures c.in-None.ensures
