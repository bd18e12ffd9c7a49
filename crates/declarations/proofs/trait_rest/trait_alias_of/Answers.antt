use Rattle.declarations.proofs.TraitLemmas.{alias_finds, alias_sticks}
use Rattle.declarations.proofs.trait_rest.trait_alias_of.Goals as goal

pub returns-in-Ok : goal.returns-in-Ok
returns-in-Ok c =
    alias_finds c.args.trees.now c.args.rest.now c.requires.header c.requires.equals c.in-Ok.after.now c.in-Ok.ensures

pub returns-in-Err : goal.returns-in-Err
returns-in-Err c =
    alias_sticks c.args.trees.now c.args.rest.now c.requires.header c.requires.equals c.in-Err.left.now c.in-Err.ensures
