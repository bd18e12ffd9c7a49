use Rattle.std.proofs.Common.{◌∙◌, sym}
use Rattle.std.proofs.lemmas.Result.{err_from_is_err_and}
use Rattle.pm_stream.specs.Building.{split}
use Rattle.pm_stream.proofs.BuildingLemmas.{joined_nil, puts_more, refused_item}
use Rattle.pm_stream.proofs.stream.TokenStream.extend_trees.Goals as goal

pub loop-tree-init : goal.loop-tree-init
loop-tree-init g c = sym (joined_nil c.args.self.now)

pub next-requires : goal.next-requires
next-requires g c = c.loop-tree.iterator.0

pub loop-tree-smaller : goal.loop-tree-smaller
loop-tree-smaller g c = (c.in-Some.ensures.goes.on c.loop-tree.iterator.1).2

pub loop-tree-preserved : goal.loop-tree-preserved
loop-tree-preserved g c =
    puts_more split c.args.self.now c.loop-tree.self
    c.put.new.self c.loop-tree.yielded c.in-Some.tree
    c.loop-tree.invariant c.in_ok-put.ensures.ok

pub returns-in_err-put-clause-ran : goal.returns-in_err-put-clause-ran
returns-in_err-put-clause-ran g c =
    let start = c.into_iter-tree-iterator in
    let p = err_from_is_err_and c.from_residual.result c.from_residual.ensures.1 in (
      start.result,
      c.loop-tree.yielded,
      start.ensures.into_iter_gives,
      c.in_err-put.ensures.err ∙ c.loop-tree.invariant,
      rw p.1 (c.loop-tree.tree-iterator, c.loop-tree.yielded_by),
    )

pub returns-in_err-put-clause-memory : goal.returns-in_err-put-clause-memory
returns-in_err-put-clause-memory g c =
    let start = c.into_iter-tree-iterator in
    refused_item g.I.IntoIterator.into_iter_gives g.I.IntoIter.Iterator.next_gives c.args.trees start.result
    c.loop-tree.tree-iterator c.next.new.self c.loop-tree.yielded c.in-Some.tree c.from_residual.result
    start.ensures.into_iter_gives c.loop-tree.yielded_by c.in-Some.ensures.steps

pub returns-in_err-put-clause-refused : goal.returns-in_err-put-clause-refused
returns-in_err-put-clause-refused g c =
    let start = c.into_iter-tree-iterator in
    let p = err_from_is_err_and c.from_residual.result c.from_residual.ensures.1 in
    rw p.1 (
      start.result,
      c.loop-tree.yielded,
      c.in-Some.tree,
      c.loop-tree.tree-iterator,
      c.next.new.self,
      start.ensures.into_iter_gives,
      c.loop-tree.yielded_by,
      c.in-Some.ensures.steps,
      c.in_err-put.ensures.err ∙ c.loop-tree.invariant,
    )

pub returns-clause-ran : goal.returns-clause-ran
returns-clause-ran g c =
    let start = c.into_iter-tree-iterator in (
      start.result,
      c.loop-tree.yielded,
      start.ensures.into_iter_gives,
      c.loop-tree.invariant,
      (c.next.new.self, (c.loop-tree.tree-iterator, c.loop-tree.yielded_by, c.in-None.ensures.steps)),
    )
