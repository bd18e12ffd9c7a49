use Rattle.declarations.proofs.ExpectedLemmas.{without_the_end}
use Rattle.declarations.proofs.expected.Expected.without_end.Goals as goal

pub returns : goal.returns
returns c = without_the_end c.args.self
