use Rattle.outline.proofs.entries.open_item.Goals as goal

pub returns-in-Err-clause-none : goal.returns-in-Err-clause-none
returns-in-Err-clause-none c = λ attributes header items reads inside.
    c.in-Err.ensures.none attributes header reads

pub returns-in-Err-items_in-clause-none : goal.returns-in-Err-items_in-clause-none
returns-in-Err-items_in-clause-none c = λ attributes header items reads inside.
    c.in-Err-items_in.ensures.none items inside
