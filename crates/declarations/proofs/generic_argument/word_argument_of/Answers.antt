use Rattle.declarations.proofs.GenericArgumentLemmas.{word_fails, word_finds, word_has, word_sticks}
use Rattle.declarations.proofs.generic_argument.word_argument_of.Goals as goal

pub returns-in-Ok-constraint_of : goal.returns-in-Ok-constraint_of
returns-in-Ok-constraint_of c = (
  word_finds c.args.trees.now c.requires c.in-Ok.from_mark.now c.in-Ok-constraint_of.rest.now c.in-Ok.ensures
      c.in-Ok-constraint_of.ensures.0,
  word_has c.args.trees.now c.part-trees.result.now c.in-Ok.from_mark.now c.in-Ok-constraint_of.rest.now
      c.in-Ok-constraint_of.kind c.in-Ok.ensures c.part-trees.ensures c.in-Ok-constraint_of.ensures.1,
)

pub returns-in-Err-constraint_of : goal.returns-in-Err-constraint_of
returns-in-Err-constraint_of c =
    word_fails c.args.trees.now c.requires c.in-Ok.from_mark.now c.in-Err-constraint_of.left.now c.in-Ok.ensures
    c.in-Err-constraint_of.ensures

pub returns-in-Err : goal.returns-in-Err
returns-in-Err c = word_sticks c.args.trees.now c.requires c.in-Err.left.now c.in-Err.ensures
