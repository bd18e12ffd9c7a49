use Rattle.std.proofs.Common.{ap, ◌∙◌, arith, refl, rules}
use Rattle.proc_macro2.specs.Trees.{forest}
use Rattle.quoting.proofs.BuilderLemmas.{built_copies, copies_begun, copies_more}
use Rattle.quoting.proofs.builder.push_copies.Goals as goal

pub loop-tree-init : goal.loop-tree-init
loop-tree-init c = record {
  copied = copies_begun c.args.list.now.items c.reserve.new.self.items c.args.trees.now (search rules);
  room = omega (arith, c.in_ok-reserve.ensures.ok);
}

pub loop-tree-preserved : goal.loop-tree-preserved
loop-tree-preserved c = record {
  copied =
      copies_more c.loop-tree.tree-index _ c.loop-tree.list.items c.put_copy.new.list.items c.args.trees.now _ _
      c.loop-tree-test.true c.tree-item.is
      refl c.loop-tree.invariant.copied c.in_ok-put_copy.ensures.ok;
  room = omega (arith, c.loop-tree.invariant.room, c.in_ok-put_copy.ensures.len, c.put_copy.ensures.capacity);
}

pub put_copy-requires : goal.put_copy-requires
put_copy-requires c = omega (arith, c.loop-tree.invariant.room, c.loop-tree-test.true)

pub returns-in_err-put_copy-clause-built : goal.returns-in_err-put_copy-clause-built
returns-in_err-put_copy-clause-built c =
    built_copies c.loop-tree.tree-index _ c.put_copy.new.list.items c.args.trees.now
    (ap forest c.in_err-put_copy.ensures.err ∙ c.loop-tree.invariant.copied) c.requires.list c.requires.trees

pub returns-clause-built : goal.returns-clause-built
returns-clause-built c =
    built_copies c.loop-tree.tree-index _ _ c.args.trees.now c.loop-tree.invariant.copied c.requires.list
    c.requires.trees
