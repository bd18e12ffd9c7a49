use Rattle.std.proofs.Common.{◌∙◌, sym}
use Rattle.declarations.proofs.ReaderLemmas.{sign_ends, sign_finds, sign_sticks}
use Rattle.declarations.proofs.item_paths.past_use_sign.Goals as goal

pub returns-then-is_use_list : goal.returns-then-is_use_list
returns-then-is_use_list c =
    sign_finds _ c.args.trees.now c.in-Some.rest.now c.in-Some.class c.in-Some.ensures
    (sym c.is_use_list.ensures ∙ c.if-is_use_list.true)

pub returns-else-is_use_list : goal.returns-else-is_use_list
returns-else-is_use_list c =
    sign_sticks _ c.args.trees.now c.in-Some.rest.now c.in-Some.class c.in-Some.ensures
    (sym c.is_use_list.ensures ∙ c.if-is_use_list.false)

pub returns-in-None : goal.returns-in-None
returns-in-None c = sign_ends _ c.args.trees.now c.in-None.ensures
