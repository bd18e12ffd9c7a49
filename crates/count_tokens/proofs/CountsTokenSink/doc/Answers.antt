use Rattle.std.proofs.Common.{arith}
use Rattle.count_tokens.proofs.CountedLemmas.{count_step}
use Rattle.count_tokens.proofs.CountsTokenSink.doc.Goals as goal
use Rattle.count_tokens.proofs.CountsTokenSink.doc.Goals.{then-inner, else-inner}

pub returns : goal.returns
returns c = λ to.
    elim c.if-inner.branch [
      | then-inner w ↦ rw w.if-inner.true
          (count_step c.args.self.now c.args._lexed to _ to.before.opened _ (omega arith) (omega arith)
          (omega (arith, w.self-is)) (omega arith) (omega arith))
      | else-inner w ↦ rw w.if-inner.false
          (count_step c.args.self.now c.args._lexed to _ to.before.opened _ (omega arith) (omega arith)
          (omega (arith, w.self-is)) (omega arith) (omega arith))
    ]
