use Rattle.relayout.proofs.AttributeLemmas.{neither_front}
use Rattle.relayout.proofs.LiteralLemmas.{text_lacked, text_past}
use Rattle.relayout.proofs.comments.past_front.Goals as goal

pub returns-in-Some-clause-found : goal.returns-in-Some-clause-found
returns-in-Some-clause-found c =
    text_past _ _ c.new-start.result c.in-Some.literal c.new-start.ensures.rest c.in-Some.ensures

pub returns-in-Some-past-clause-found : goal.returns-in-Some-past-clause-found
returns-in-Some-past-clause-found c =
    text_past _ _ c.new-start.result c.in-Some-past.literal c.new-start.ensures.rest c.in-Some-past.ensures

pub returns-clause-found : goal.returns-clause-found
returns-clause-found c =
    neither_front _ (text_lacked _ _ c.new-start.result c.new-start.ensures.rest c.in_default.ensures)
    (text_lacked _ _ c.new-start.result c.new-start.ensures.rest c.in_default-past.ensures)
