use Rattle.std.proofs.Common.{arith}
use Rattle.count_tokens.proofs.CountedLemmas.{count_step}
use Rattle.count_tokens.proofs.CountsTokenSink.mark.Goals as goal

pub returns : goal.returns
returns c = λ to.
    count_step c.args.self.now c.args._lexed to _ to.before.opened _ (omega arith) (omega arith) (omega arith)
    (omega arith) (omega arith)
