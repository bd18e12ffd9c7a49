use Rattle.declarations.proofs.ItemRestLemmas.{list_ends, no_import, segment_ends, segment_fewer, segment_on}
use Rattle.declarations.proofs.item_paths.use_step.Goals as goal

pub returns-in-Some-may_separator : goal.returns-in-Some-may_separator
returns-in-Some-may_separator c = (
  segment_on c.args.trees.now c.in-Some.rest.now c.in-Some-may_separator.next.now c.in-Some.class
      c.is_segment.result c.in-Some.ensures c.is_segment.ensures c.if-is_segment.true
      c.in-Some-may_separator.ensures,
  segment_fewer c.args.trees.now c.in-Some.rest.now
      c.in-Some-may_separator.next.now c.in-Some.class c.in-Some.ensures c.in-Some-may_separator.ensures,
)

pub returns-in-None-may_separator : goal.returns-in-None-may_separator
returns-in-None-may_separator c =
    segment_ends c.args.trees.now c.in-Some.rest.now c.in-Some.class c.is_segment.result c.past_use_end.result
    c.in-Some.ensures c.is_segment.ensures c.if-is_segment.true c.in-None-may_separator.ensures
    c.past_use_end.ensures

pub returns-else-is_segment : goal.returns-else-is_segment
returns-else-is_segment c =
    list_ends c.args.trees.now c.in-Some.rest.now c.in-Some.class c.is_segment.result c.past_use_list.result
    c.in-Some.ensures c.is_segment.ensures c.if-is_segment.false c.past_use_list.ensures

pub returns-in-None : goal.returns-in-None
returns-in-None c = no_import c.args.trees.now c.in-None.ensures
