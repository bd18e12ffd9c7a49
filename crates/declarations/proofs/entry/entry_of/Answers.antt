use Rattle.std.proofs.Common.{◌∙◌, sym}
use Rattle.declarations.proofs.EntryLemmas.{literal_first, named_none, named_second}
use Rattle.declarations.proofs.entry.entry_of.Goals as goal

pub returns-then-begins_literal : goal.returns-then-begins_literal
returns-then-begins_literal c =
    literal_first c.args.trees.now c.in-Some.field-0-1.now c.in-Some.class c.literal_of.result c.in-Some.ensures
    (sym c.begins_literal.ensures ∙ c.if-begins_literal.true) c.literal_of.ensures

pub returns-else-begins_literal : goal.returns-else-begins_literal
returns-else-begins_literal c =
    named_second c.args.trees.now c.in-Some.field-0-1.now c.in-Some.class c.named_of.result c.in-Some.ensures
    (sym c.begins_literal.ensures ∙ c.if-begins_literal.false) c.named_of.ensures

pub returns-in-None : goal.returns-in-None
returns-in-None c = named_none c.args.trees.now c.named_of-in-None.result c.in-None.ensures c.named_of-in-None.ensures
