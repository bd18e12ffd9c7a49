use Rattle.declarations.proofs.ImplLemmas.{braces_find, braces_have, braces_stick, where_sticks}
use Rattle.declarations.proofs.implementation.end_of.Goals as goal

pub returns-in-Some : goal.returns-in-Some
returns-in-Some c =
    let found = c.in-Some.ensures.found in (
      braces_find c.args.trees.now c.in-Ok.from_body.now c.in-Some.rest.now c.in-Some.body.now c.in-Ok.ensures found.0
          found.1,
      braces_have c.args.trees.now c.in-Ok.from_body.now c.in-Some.rest.now c.part-where_clause.result.now
          c.in-Some.body.now c.in-Ok.ensures c.part-where_clause.ensures found.0 found.1,
    )

pub returns-in-None : goal.returns-in-None
returns-in-None c =
    braces_stick c.args.trees.now c.in-Ok.from_body.now c.in-Ok.ensures c.in-None.ensures.none

pub returns-in-Err : goal.returns-in-Err
returns-in-Err c = where_sticks c.args.trees.now c.in-Err.left.now c.in-Err.ensures
