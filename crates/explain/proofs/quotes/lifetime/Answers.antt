use Rattle.explain.proofs.LoneLemmas.{hash_follows, name_ends}
use Rattle.explain.proofs.QuoteLemmas.{hash_after}
use Rattle.explain.proofs.quotes.lifetime.Goals as goal

pub single_content-requires-clause-closed : goal.single_content-requires-clause-closed
single_content-requires-clause-closed c =
    (name_ends c.args.at c.args.inside c.args.end c.in-Some.after c.requires.quote c.in-Some.ensures c.requires.name).0

pub single_content-requires-clause-closes : goal.single_content-requires-clause-closes
single_content-requires-clause-closes c =
    (name_ends c.args.at c.args.inside c.args.end c.in-Some.after c.requires.quote c.in-Some.ensures c.requires.name).1

pub unreachable-requires : goal.unreachable-requires
unreachable-requires c =
    hash_follows c.args.at c.args.inside c.args.end c.requires.quote c.requires.name c.in_default.ensures
    c.in_default-past.ensures c.requires.lone

pub returns : goal.returns
returns c =
    hash_after c.args.at c.args.inside c.args.end c.in-Some-past.after c.requires.quote c.requires.name
    c.in-Some-past.ensures c.requires.raw
