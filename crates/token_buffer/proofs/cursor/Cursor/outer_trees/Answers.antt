use Rattle.token_buffer.specs.Reads.{left}
use Rattle.token_buffer.proofs.OuterLemmas.{built_first, fewer_first, outer_all, outer_more}
use Rattle.token_buffer.proofs.cursor.Cursor.outer_trees.Goals as goal

pub outer_tree-requires : goal.outer_tree-requires
outer_tree-requires c =
    built_first c.in-Some.first.text c.in-Some.first.span (left c.loop-first.here) (left c.in-Some.first.after)
    c.in-Some.ensures c.loop-first.here.built

pub loop-first-smaller : goal.loop-first-smaller
loop-first-smaller c =
    fewer_first c.in-Some.first.text c.in-Some.first.span (left c.loop-first.here) (left c.in-Some.first.after)
    c.in-Some.ensures

pub loop-first-preserved : goal.loop-first-preserved
loop-first-preserved c =
    outer_more c.loop-first.trees.items c.push.new.self.items c.in_ok-outer_tree.field-0 c.in-Some.first.text
    c.in-Some.first.span (left c.loop-first.here) (left c.in-Some.first.after) (left c.args.self)
    c.loop-first.invariant c.in-Some.ensures c.in_ok-outer_tree.ensures c.in_ok-push.ensures.items

pub returns : goal.returns
returns c =
    outer_all c.loop-first.trees.items (left c.loop-first.here) (left c.args.self) c.loop-first.invariant
    c.in_default.ensures
