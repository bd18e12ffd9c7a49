use Rattle.std.proofs.Common.{sym, ◌∙◌}
use Rattle.literal_escaper.proofs.ItemLemmas.{items_step, step_none, step_shorter}
use Rattle.literal_escaper.proofs.front.next_front.Goals as goal

pub returns-then-is_some-clause-left : goal.returns-then-is_some-clause-left
returns-then-is_some-clause-left g c =
    sym c.loop-front.invariant ∙ items_step g.K.Unescape.kind c.loop-front.cursor c.in-Some.front.after
    c.in-Some.front.item c.in-Some.front.warning c.in-Some.ensures.value

pub loop-front-smaller : goal.loop-front-smaller
loop-front-smaller g c =
    step_shorter g.K.Unescape.kind c.loop-front.cursor c.in-Some.front.after c.in-Some.front.item
    c.in-Some.front.warning c.in-Some.ensures.value c.in-Some.ensures.more

pub loop-front-preserved : goal.loop-front-preserved
loop-front-preserved g c =
    sym (step_none g.K.Unescape.kind c.loop-front.cursor c.in-Some.front.after c.in-Some.front.item
    c.in-Some.front.warning c.in-Some.ensures.value (sym c.if-is_some.ensures)) ∙ c.loop-front.invariant
