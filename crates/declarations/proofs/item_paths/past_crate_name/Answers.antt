use Rattle.std.proofs.Common.{◌∙◌, sym}
use Rattle.declarations.proofs.ReaderLemmas.{sign_ends, sign_finds, sign_sticks}
use Rattle.declarations.proofs.item_paths.past_crate_name.Goals as goal

pub returns-then-is_crate_name : goal.returns-then-is_crate_name
returns-then-is_crate_name c =
    sign_finds _ c.args.trees.now c.in-Some.rest.now c.in-Some.class c.in-Some.ensures
    (sym c.is_crate_name.ensures ∙ c.if-is_crate_name.true)

pub returns-else-is_crate_name : goal.returns-else-is_crate_name
returns-else-is_crate_name c =
    sign_sticks _ c.args.trees.now c.in-Some.rest.now c.in-Some.class c.in-Some.ensures
    (sym c.is_crate_name.ensures ∙ c.if-is_crate_name.false)

pub returns-in-None : goal.returns-in-None
returns-in-None c = sign_ends _ c.args.trees.now c.in-None.ensures
