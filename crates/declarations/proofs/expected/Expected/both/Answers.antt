use Rattle.declarations.proofs.ExpectedLemmas.{joined}
use Rattle.declarations.proofs.expected.Expected.both.Goals as goal

pub returns : goal.returns
returns c = joined c.args.self c.args.other
