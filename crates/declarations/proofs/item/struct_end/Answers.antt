use Rattle.declarations.proofs.ItemLemmas.{other_reads, tuple_fails, tuple_finds, tuple_has}
use Rattle.declarations.proofs.item.struct_end.Goals as goal

pub returns-in-Ok : goal.returns-in-Ok
returns-in-Ok c =
    let found = c.in-Some.ensures.found in
    let end = c.in-Ok.ensures in (
      tuple_finds c.args.trees.now c.in-Some.from_clause.now c.in-Some.fields.now found.0 found.1 c.in-Ok.rest.now
          end.0,
      tuple_has c.args.trees.now c.in-Some.from_clause.now c.in-Ok.where_clause.now c.in-Ok.semicolon.now
          c.in-Ok.rest.now _ found.0 found.1 end.1,
    )

pub returns-in-Err : goal.returns-in-Err
returns-in-Err c =
    let found = c.in-Some.ensures.found in
    tuple_fails c.args.trees.now c.in-Some.from_clause.now c.in-Some.fields.now found.0 found.1 c.in-Err.left.now
    c.in-Err.ensures

pub returns-in-None : goal.returns-in-None
returns-in-None c =
    other_reads c.args.trees.now c.in-None.ensures.none c.plain_end.result c.plain_end.ensures
