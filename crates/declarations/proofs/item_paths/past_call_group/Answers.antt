use Rattle.std.proofs.Common.{◌∙◌, sym}
use Rattle.declarations.specs.ItemRest.{is_call_group}
use Rattle.declarations.proofs.ReaderLemmas.{sign_ends, sign_finds, sign_sticks}
use Rattle.declarations.proofs.item_paths.past_call_group.Goals as goal

pub returns-then-is_call_group : goal.returns-then-is_call_group
returns-then-is_call_group c =
    sign_finds is_call_group c.args.trees.now c.in-Some.rest.now c.in-Some.class c.in-Some.ensures
    (sym c.is_call_group.ensures ∙ c.if-is_call_group.true)

pub returns-else-is_call_group : goal.returns-else-is_call_group
returns-else-is_call_group c =
    sign_sticks is_call_group c.args.trees.now c.in-Some.rest.now c.in-Some.class c.in-Some.ensures
    (sym c.is_call_group.ensures ∙ c.if-is_call_group.false)

pub returns-in-None : goal.returns-in-None
returns-in-None c = sign_ends is_call_group c.args.trees.now c.in-None.ensures
