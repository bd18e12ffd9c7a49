use Rattle.std.proofs.Common.{◌∙◌, sym}
use Rattle.declarations.specs.ItemRest.{inner_attribute}
use Rattle.declarations.specs.rules.Parts.{inner_attributes}
use Rattle.declarations.proofs.LoopLemmas.{fewer, leads_end, leads_more, leads_start, leads_stuck}
use Rattle.declarations.proofs.inner.past_inner_attributes.Goals as goal

pub loop-left-init : goal.loop-left-init
loop-left-init c = leads_start inner_attributes c.args.trees.now

pub loop-left-smaller : goal.loop-left-smaller
loop-left-smaller c =
    fewer inner_attribute c.loop-left.left.now c.in-Ok.next.now
    (sym c.begins_inner.ensures ∙ c.loop-left-test.true) c.in-Ok.ensures

pub loop-left-preserved : goal.loop-left-preserved
loop-left-preserved c =
    leads_more inner_attribute c.args.trees.now c.loop-left.left.now c.in-Ok.next.now c.loop-left.invariant
    (sym c.begins_inner.ensures ∙ c.loop-left-test.true) c.in-Ok.ensures

pub returns-in-Err : goal.returns-in-Err
returns-in-Err c =
    leads_stuck inner_attribute c.args.trees.now c.loop-left.left.now c.in-Err.fault.now c.loop-left.invariant
    (sym c.begins_inner.ensures ∙ c.loop-left-test.true) c.in-Err.ensures

pub returns : goal.returns
returns c =
    leads_end inner_attribute c.args.trees.now c.loop-left.left.now c.loop-left.invariant
    (sym c.begins_inner.ensures ∙ c.loop-left-test.false)
