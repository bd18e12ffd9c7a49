use Rattle.std.proofs.Common.{◌∙◌, sym}
use Rattle.grammars.specs.Grammar.{Many}
use Rattle.declarations.specs.ItemRest.{further_segment}
use Rattle.declarations.proofs.LoopLemmas.{fewer, leads_end, leads_more, leads_start, leads_stuck}
use Rattle.declarations.proofs.item_paths.past_segments.Goals as goal

pub loop-left-init : goal.loop-left-init
loop-left-init c = leads_start (Many further_segment) c.args.trees.now

pub loop-left-smaller : goal.loop-left-smaller
loop-left-smaller c =
    fewer further_segment c.loop-left.left.now c.in-Ok.next.now
    (sym c.begins_further.ensures ∙ c.loop-left-test.true) c.in-Ok.ensures

pub loop-left-preserved : goal.loop-left-preserved
loop-left-preserved c =
    leads_more further_segment c.args.trees.now c.loop-left.left.now c.in-Ok.next.now c.loop-left.invariant
    (sym c.begins_further.ensures ∙ c.loop-left-test.true) c.in-Ok.ensures

pub returns-in-Err : goal.returns-in-Err
returns-in-Err c =
    leads_stuck further_segment c.args.trees.now c.loop-left.left.now c.in-Err.fault.now c.loop-left.invariant
    (sym c.begins_further.ensures ∙ c.loop-left-test.true) c.in-Err.ensures

pub returns : goal.returns
returns c =
    leads_end further_segment c.args.trees.now c.loop-left.left.now c.loop-left.invariant
    (sym c.begins_further.ensures ∙ c.loop-left-test.false)
