use Rattle.declarations.proofs.ItemLemmas.{clause_fails, clause_finds, clause_has}
use Rattle.declarations.proofs.item.clause_end_of.Goals as goal

pub returns-in-Ok-semicolon_of : goal.returns-in-Ok-semicolon_of
returns-in-Ok-semicolon_of c =
    let end = c.in-Ok-semicolon_of.ensures in (
      clause_finds c.args.trees.now c.in-Ok.from_semicolon.now c.in-Ok-semicolon_of.rest.now c.in-Ok.ensures end.0,
      clause_has c.args.trees.now c.in-Ok.from_semicolon.now c.part.result.now c.in-Ok-semicolon_of.semicolon.now
          c.in-Ok-semicolon_of.rest.now c.in-Ok.ensures c.part.ensures end.1,
    )

pub returns-in-Err-semicolon_of : goal.returns-in-Err-semicolon_of
returns-in-Err-semicolon_of c =
    clause_fails c.args.trees.now c.in-Ok.from_semicolon.now c.in-Err-semicolon_of.left.now c.in-Ok.ensures
    c.in-Err-semicolon_of.ensures
