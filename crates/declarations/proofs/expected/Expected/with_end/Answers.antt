use Rattle.declarations.proofs.ExpectedLemmas.{with_the_end}
use Rattle.declarations.proofs.expected.Expected.with_end.Goals as goal

pub returns : goal.returns
returns c = with_the_end c.args.self
