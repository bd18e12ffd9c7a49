use Rattle.declarations.proofs.DeclarationLemmas.{word_auto, word_default, word_gen, word_safe, word_plain, word_union}
use Rattle.declarations.proofs.item_kinds.word_item.Goals as goal

pub returns-in-Auto : goal.returns-in-Auto
returns-in-Auto c =
    word_auto c.args.trees.now c.args.rest.now c.args.word c.past_auto.result c.requires c.in-Auto.is
    c.past_auto.ensures

pub returns-in-Default : goal.returns-in-Default
returns-in-Default c =
    word_default c.args.trees.now c.args.rest.now c.args.word c.past_default.result c.requires c.in-Default.is
    c.past_default.ensures

pub returns-in-Gen : goal.returns-in-Gen
returns-in-Gen c =
    word_gen c.args.trees.now c.args.rest.now c.args.word c.past_gen.result c.requires c.in-Gen.is c.past_gen.ensures

pub returns-in-Safe : goal.returns-in-Safe
returns-in-Safe c =
    word_safe c.args.trees.now c.args.rest.now c.args.word c.past_safe.result c.requires c.in-Safe.is
    c.past_safe.ensures

pub returns-in-Union : goal.returns-in-Union
returns-in-Union c =
    word_union c.args.trees.now c.args.rest.now c.args.word c.named_item.result c.requires c.in-Union.is
    c.named_item.ensures

pub returns-in-Plain : goal.returns-in-Plain
returns-in-Plain c = word_plain c.args.trees.now c.args.rest.now c.args.word c.requires c.in-Plain.is
