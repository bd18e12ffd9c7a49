use Rattle.std.proofs.Common.{◌∙◌}
use Rattle.declarations.specs.rules.Entries as rule
use Rattle.declarations.proofs.EntryLemmas.{begins_segment}
use Rattle.declarations.proofs.LoopLemmas.{fewer, leads_end, leads_more, leads_start, leads_stuck}
use Rattle.declarations.proofs.entry.more_segments.Goals as goal

pub loop-left-init : goal.loop-left-init
loop-left-init c = leads_start rule.more_segments c.args.trees.now

pub loop-left-smaller : goal.loop-left-smaller
loop-left-smaller c =
    fewer rule.next_segment c.loop-left.left.now c.in-Ok.next.now
    (begins_segment _ c.loop-left.left.now c.begins.ensures ∙ c.loop-left-test.true) c.in-Ok.ensures

pub loop-left-preserved : goal.loop-left-preserved
loop-left-preserved c =
    leads_more rule.next_segment c.args.trees.now c.loop-left.left.now c.in-Ok.next.now c.loop-left.invariant
    (begins_segment _ c.loop-left.left.now c.begins.ensures ∙ c.loop-left-test.true) c.in-Ok.ensures

pub returns-in-Err : goal.returns-in-Err
returns-in-Err c =
    leads_stuck rule.next_segment c.args.trees.now c.loop-left.left.now c.in-Err.fault.now c.loop-left.invariant
    (begins_segment _ c.loop-left.left.now c.begins.ensures ∙ c.loop-left-test.true) c.in-Err.ensures

pub returns : goal.returns
returns c =
    leads_end rule.next_segment c.args.trees.now c.loop-left.left.now c.loop-left.invariant
    (begins_segment _ c.loop-left.left.now c.begins.ensures ∙ c.loop-left-test.false)
