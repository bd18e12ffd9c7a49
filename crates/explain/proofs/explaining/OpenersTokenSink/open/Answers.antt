use Rattle.std.proofs.Common.{ap, arith}
use Rattle.explain.proofs.ExplainingLemmas.{opener_is, rest_bytes}
use Rattle.explain.proofs.explaining.OpenersTokenSink.open.Goals as goal

pub overflow_sub-start : goal.overflow_sub-start
overflow_sub-start c = omega (arith, rest_bytes c.args.self.now c.args.lexed c.requires.to)

pub returns : goal.returns
returns c = (
  ap (λ s. (c.args.delimiter, s.lo)) (c.span.ensures c.requires.to.is),
  λ can. record {
    text = can.to.takes.text;
    utf8 = can.to.takes.utf8;
    stand = (
      opener_is c.args.self.now c.args.lexed c.args.delimiter can _
          (omega (arith, rest_bytes c.args.self.now c.args.lexed can.to)) (omega arith) (c.span.ensures can.to.is),
      can.to.takes.stand,
    );
  },
)
