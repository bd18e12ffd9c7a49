use Rattle.std.proofs.Common.{◌∙◌, sym}
use Rattle.item_tables.specs.Classes.{is_word}
use Rattle.declarations.specs.rules.Names.{Named, word}
use Rattle.declarations.proofs.ReaderLemmas.{mark_finds, mark_sticks, sign_ends, sign_finds, sign_sticks}
use Rattle.declarations.proofs.item_rest.past_name.Goals as goal

pub returns-then-is_name : goal.returns-then-is_name
returns-then-is_name c =
    mark_finds Named word c.args.trees.now c.in-Some.rest.now
    (sign_finds is_word c.args.trees.now c.in-Some.rest.now c.in-Some.class c.in-Some.ensures
    (sym c.is_name.ensures ∙ c.if-is_name.true))

pub returns-else-is_name : goal.returns-else-is_name
returns-else-is_name c =
    mark_sticks Named word c.args.trees.now c.args.trees.now
    (sign_sticks is_word c.args.trees.now c.in-Some.rest.now c.in-Some.class c.in-Some.ensures
    (sym c.is_name.ensures ∙ c.if-is_name.false))

pub returns-in-None : goal.returns-in-None
returns-in-None c =
    mark_sticks Named word c.args.trees.now c.args.trees.now (sign_ends is_word c.args.trees.now c.in-None.ensures)
