use Rattle.declarations.proofs.ItemFrontLemmas.{abi_reads}
use Rattle.declarations.proofs.item_front.past_abi.Goals as goal

pub returns : goal.returns
returns c =
    abi_reads c.args.trees.now c.may_literal.result.now c.past_fn.result c.may_literal.ensures.finds
    c.may_literal.ensures.qualifiers c.past_fn.ensures
