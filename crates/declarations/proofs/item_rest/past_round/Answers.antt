use Rattle.std.proofs.Common.{◌∙◌, sym}
use Rattle.declarations.proofs.ReaderLemmas.{sign_ends, sign_finds, sign_sticks}
use Rattle.declarations.proofs.item_rest.past_round.Goals as goal

pub returns-then-is_round : goal.returns-then-is_round
returns-then-is_round c =
    sign_finds _ c.args.trees.now c.in-Some.rest.now c.in-Some.class c.in-Some.ensures
    (sym c.is_round.ensures ∙ c.if-is_round.true)

pub returns-else-is_round : goal.returns-else-is_round
returns-else-is_round c =
    sign_sticks _ c.args.trees.now c.in-Some.rest.now c.in-Some.class c.in-Some.ensures
    (sym c.is_round.ensures ∙ c.if-is_round.false)

pub returns-in-None : goal.returns-in-None
returns-in-None c = sign_ends _ c.args.trees.now c.in-None.ensures
