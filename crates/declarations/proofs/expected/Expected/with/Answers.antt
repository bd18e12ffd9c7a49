use Rattle.declarations.proofs.ExpectedLemmas.{with_class}
use Rattle.declarations.proofs.expected.Expected.with.Goals as goal

pub returns : goal.returns
returns c = rw c.code.ensures (with_class c.args.self c.args.class)
