use Rattle.std.proofs.Common.{◌∙◌, Some, ap, sym}
use Rattle.proc_macro2.specs.Forest.{chain}
use Rattle.proc_macro2.specs.Trees.{alone}
use Rattle.quoting.proofs.BuilderLemmas.{built_take}
use Rattle.quoting.proofs.InPlaceLemmas.{built_drop}
use Rattle.quoting.proofs.OpenListLemmas.{adds_put, copied_none, copied_some, with_copies}
use Rattle.quoting.proofs.open_list.OpenList.replace.Goals as goal
use Rattle.quoting.proofs.open_list.OpenList.replace.Goals.{in-Some, in-None}

pub copy-requires : goal.copy-requires
copy-requires c =
    built_take _ _
    (built_drop c.match-take.changed.1 _ (built_take c.self.inside.done c.self.inside.trees.now c.self.invariant.2))

pub returns : goal.returns
returns c =
    let inside = c.self.inside in
    adds_put inside.stream.now inside.changed inside.done inside.trees.now
    (with_copies c.match-take.changed inside.done inside.trees.now) c.put.new.self
    (alone c.args.tree) c.args.self.now
    c.self.view_is c.requires.left
    (elim c.match-take.branch [
      | in-Some w ↦
          copied_some inside.changed c.match-take.changed inside.done inside.trees.now
          (sym c.take.ensures.value ∙ (w.in-Some.is ∙ ap (λ x. Some x) (sym w.changed-is)))
      | in-None w ↦
          copied_none inside.changed c.match-take.changed w.new.result inside.done inside.trees.now
          (sym c.take.ensures.value ∙ w.in-None.is) w.new.ensures w.changed-is
    ])
    (c.in_ok-put.ensures ∙ ap (λ f. chain f (alone c.args.tree)) c.in_ok-copy.ensures)
