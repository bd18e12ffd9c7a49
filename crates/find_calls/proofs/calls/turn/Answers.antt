use Rattle.std.proofs.Common.{◌∙◌, sym}
use Rattle.find_calls.proofs.MarkLemmas.{turn_arrow, turn_close, turn_none, turn_open}
use Rattle.find_calls.proofs.calls.turn.Goals as goal

pub returns-then-mark-eq60 : goal.returns-then-mark-eq60
returns-then-mark-eq60 c = λ within.
    turn_open c.args.mark _ _ c.args.opened.now.items c.open_angle.new.opened.items c.args.found.now.items
    c.if-mark-eq60.true c.in_ok-open_angle.ensures.opened c.in_ok-open_angle.ensures.few

pub returns-then-mark-eq62 : goal.returns-then-mark-eq62
returns-then-mark-eq62 c = λ within.
    turn_close c.args.mark _ _ _ c.args.found.now.items _ c.close.new.found.items c.if-mark-eq62.true within
    c.close.ensures

pub returns-then-begins_arrow : goal.returns-then-begins_arrow
returns-then-begins_arrow c = λ within.
    turn_arrow c.args.mark _ _ _ _ c.args.found.now.items (sym c.begins_arrow.ensures ∙ c.if-begins_arrow.true)
    c.past_arrow.ensures

pub returns : goal.returns
returns c = λ within.
    turn_none c.args.mark _ _ _ c.args.found.now.items c.if-mark-eq60.false c.if-mark-eq62.false
    (sym c.begins_arrow.ensures ∙ c.if-begins_arrow.false)
