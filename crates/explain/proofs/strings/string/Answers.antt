use Rattle.explain.proofs.QuoteLemmas.{unclosed_string}
use Rattle.explain.proofs.strings.string.Goals as goal

pub returns-in-None : goal.returns-in-None
returns-in-None c = unclosed_string c.args.kind c.args.at c.args.inside c.requires.opens c.in-None.ensures
