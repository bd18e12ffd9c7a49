use Rattle.declarations.proofs.ItemKindLemmas.{block_or_fn, block_reads}
use Rattle.declarations.proofs.item_kinds.past_unsafe_extern.Goals as goal

pub returns-then-begins : goal.returns-then-begins
returns-then-begins c =
    block_reads c.args.trees.now c.may_literal-from_rest.result.now c.begins.result c.named_item.result
    c.may_literal-from_rest.ensures.finds c.begins.ensures c.if-begins.true c.named_item.ensures

pub returns-else-begins : goal.returns-else-begins
returns-else-begins c =
    block_or_fn c.args.trees.now c.may_literal-from_rest.result.now c.begins.result c.past_fn.result
    c.may_literal-from_rest.ensures.finds c.begins.ensures c.if-begins.false
    c.may_literal-from_rest.ensures.qualifiers c.past_fn.ensures
