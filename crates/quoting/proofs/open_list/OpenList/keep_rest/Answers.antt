use Rattle.quoting.proofs.JoinLemmas.{keeps_all}
use Rattle.quoting.proofs.open_list.OpenList.keep_rest.Goals as goal

pub returns-clause-kept : goal.returns-clause-kept
returns-clause-kept c =
    let inside = c.self.inside in
    keeps_all inside.stream.now inside.changed inside.done inside.trees.now c.args.self.now c.self.view_is
    c.self.invariant.0 c.self.invariant.1
