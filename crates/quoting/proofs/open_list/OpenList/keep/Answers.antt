use Rattle.quoting.proofs.OpenListLemmas.{adds_kept}
use Rattle.quoting.proofs.open_list.OpenList.keep.Goals as goal

pub returns : goal.returns
returns c =
    let inside = c.self.inside in
    adds_kept inside.stream.now inside.changed inside.done inside.trees.now c.args.self.now c.self.view_is c.requires
    c.self.invariant.0 c.self.invariant.1
