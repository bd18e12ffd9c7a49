use Rattle.std.proofs.Common.{rules, ◌∙◌}
use Rattle.quoting.specs.Respaced.{respace_marks}
use Rattle.quoting.proofs.PartLemmas.{all_done, by_trees_respaced, close_group, close_less, is_open, open_group}
use Rattle.quoting.proofs.PartLemmas.{open_less, result_is, step_token}
use Rattle.quoting.proofs.respace.respace_marks.Goals as goal

pub returns-in_default-pop : goal.returns-in_default-pop
returns-in_default-pop c =
    result_is c.finish.result _ _ c.finish.ensures
    (all_done respace_marks c.loop-tree.here c.loop-tree.outer.items _ by_trees_respaced c.in_default.ensures
    (search rules) c.loop-tree.invariant)

pub close-requires-clause-open : goal.close-requires-clause-open
close-requires-clause-open c =
    is_open respace_marks c.loop-tree.here c.in-Some-pop.around c.loop-tree.outer.items c.pop.new.self.items _
    c.in-Some-pop.ensures.items c.loop-tree.invariant

pub loop-tree-smaller-in_default : goal.loop-tree-smaller-in_default
loop-tree-smaller-in_default c =
    close_less c.loop-tree.here c.in-Some-pop.around c.close.new.self c.loop-tree.outer.items c.pop.new.self.items _
    c.in-Some-pop.ensures.items c.in_ok-close.ensures

pub loop-tree-preserved-in_default : goal.loop-tree-preserved-in_default
loop-tree-preserved-in_default c =
    close_group respace_marks c.loop-tree.here c.in-Some-pop.around c.close.new.self c.loop-tree.outer.items
    c.pop.new.self.items _ by_trees_respaced
    c.in_default.ensures c.in-Some-pop.ensures.items c.in_ok-close.ensures c.loop-tree.invariant

pub loop-tree-smaller-in-Group : goal.loop-tree-smaller-in-Group
loop-tree-smaller-in-Group c =
    open_less c.loop-tree.here c.new-here-in-Group.result c.loop-tree.outer.items c.push.new.self.items
    c.in-Some.tree.now c.in-Some.after.now c.in-Group.group
    c.in-Some.ensures c.in-Group.is (c.new-here-in-Group.ensures.left ∙ c.stream_ref.ensures.value)
    c.in_ok-push.ensures.items

pub loop-tree-preserved-in-Group : goal.loop-tree-preserved-in-Group
loop-tree-preserved-in-Group c =
    open_group respace_marks c.loop-tree.here c.new-here-in-Group.result c.loop-tree.outer.items c.push.new.self.items
    c.in-Some.tree.now c.in-Some.after.now c.in-Group.group _ by_trees_respaced
    c.in-Some.ensures c.in-Group.is (c.new-here-in-Group.ensures.whole ∙ c.stream_ref.ensures.value)
    c.new-here-in-Group.ensures.done
    (c.new-here-in-Group.ensures.left ∙ c.stream_ref.ensures.value) c.in_ok-push.ensures.items c.loop-tree.invariant

pub loop-tree-preserved : goal.loop-tree-preserved
loop-tree-preserved c =
    step_token c.loop-tree.here c.respace_next.new.list c.loop-tree.outer.items c.in-Some.tree.now c.in-Some.after.now _
    c.in-Some.ensures c.in_default-tree.not-Group c.in_ok-respace_next.ensures c.loop-tree.invariant
