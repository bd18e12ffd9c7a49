use Rattle.explain.proofs.LetterLemmas.{hashes_here, other_follows}
use Rattle.explain.proofs.QuoteLemmas.{without_quote}
use Rattle.explain.proofs.strings.without_quote.Goals as goal

pub unreachable-requires : goal.unreachable-requires
unreachable-requires c = other_follows _ c.in_default.ensures c.requires.quote

pub returns : goal.returns
returns c =
    without_quote c.args.kind c.args.at c.args.inside c.args.end c.in-Some.after c.requires.letters
    (hashes_here c.args.kind c.args.at c.args.inside c.args.end c.requires.letters c.requires.signs c.requires.quote
    c.requires.identifier)
    c.in-Some.ensures c.requires.name
