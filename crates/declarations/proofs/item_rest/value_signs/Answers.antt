use Rattle.grammars.specs.Grammar.{Many}
use Rattle.declarations.specs.rules.Bodies.{not_semicolon}
use Rattle.declarations.proofs.LoopLemmas.{fewer, leads_end, leads_more, leads_start}
use Rattle.declarations.proofs.item_rest.value_signs.Goals as goal

pub loop-next-init : goal.loop-next-init
loop-next-init c = leads_start (Many not_semicolon) c.args.trees.now

pub loop-next-smaller : goal.loop-next-smaller
loop-next-smaller c =
    fewer not_semicolon c.loop-next.left.now c.in-Some.next.now c.in-Some.ensures.begins c.in-Some.ensures.found

pub loop-next-preserved : goal.loop-next-preserved
loop-next-preserved c =
    leads_more not_semicolon c.args.trees.now c.loop-next.left.now c.in-Some.next.now c.loop-next.invariant
    c.in-Some.ensures.begins c.in-Some.ensures.found

pub returns : goal.returns
returns c =
    leads_end not_semicolon c.args.trees.now c.loop-next.left.now c.loop-next.invariant c.in_default.ensures.none
