use Rattle.std.proofs.Common.{arith}
use Rattle.quoting.proofs.JoinLemmas.{keeps_up_to}
use Rattle.quoting.proofs.open_list.OpenList.keep_before.Goals as goal

pub returns : goal.returns
returns c =
    let inside = c.self.inside in
    keeps_up_to c.args.index inside.stream.now inside.changed inside.done _ inside.trees.now c.args.self.now
    c.self.view_is (omega arith) (omega (arith, c.self.invariant.0)) (λ less. omega (arith, less))
    (λ less. omega (arith, less)) c.self.invariant.1
