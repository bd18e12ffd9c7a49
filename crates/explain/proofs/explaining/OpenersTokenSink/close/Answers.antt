use Rattle.std.proofs.Common.{subst}
use Rattle.std.specs.List.{AllByRecursion}
use Rattle.explain.specs.Explained.{IsOpenerOf}
use Rattle.explain.proofs.explaining.OpenersTokenSink.close.Goals as goal

pub returns : goal.returns
returns c = λ can.
    let before = can.to.before in
    let takes = can.to.takes in
    record {
      text = takes.text;
      utf8 = takes.utf8;
      stand = (subst (AllByRecursion (IsOpenerOf before.base before.source)) can.innermost takes.stand).1;
    }
