use Rattle.std.proofs.Common.{refl}
use Rattle.declarations.proofs.ItemLemmas.{braces_find, unit_finds, unit_sticks}
use Rattle.declarations.proofs.item.body_of.Goals as goal

pub returns-in-Some : goal.returns-in-Some
returns-in-Some c =
    let found = c.in-Some.ensures.found in (
      braces_find c.args.trees.now c.in-Some.rest.now c.in-Some.group.now found.0 found.1,
      (found.0, found.1, refl),
    )

pub returns-in-Ok : goal.returns-in-Ok
returns-in-Ok c = (
  unit_finds c.args.trees.now c.in-None.ensures.none c.in-Ok.rest.now c.in-Ok.ensures.0,
  c.in-Ok.ensures.1,
)

pub returns-in-Err : goal.returns-in-Err
returns-in-Err c = unit_sticks c.args.trees.now c.in-None.ensures.none c.in-Err.left.now c.in-Err.ensures
