use Rattle.std.proofs.Common.{◌∙◌, sym}
use Rattle.declarations.proofs.EntryLemmas.{value_ends, value_reads, value_sticks}
use Rattle.declarations.proofs.entry.past_value.Goals as goal

pub returns-then-continues : goal.returns-then-continues
returns-then-continues c =
    value_sticks c.args.trees.now c.in-Some.field-0-1.now c.in-Some.class c.in-Some.ensures
    (sym c.continues.ensures ∙ c.if-continues.true)

pub returns-else-continues : goal.returns-else-continues
returns-else-continues c =
    value_reads c.args.trees.now c.in-Some.field-0-1.now c.in-Some.class c.past_expression.result c.in-Some.ensures
    (sym c.continues.ensures ∙ c.if-continues.false) c.past_expression.ensures

pub returns-in-None : goal.returns-in-None
returns-in-None c = value_ends c.args.trees.now c.in-None.ensures
