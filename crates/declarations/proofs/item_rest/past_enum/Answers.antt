use Rattle.std.proofs.lemmas.Result.{err_from_is_err_and}
use Rattle.declarations.specs.rules.Bodies.{name, where_and_body}
use Rattle.declarations.specs.rules.Parts.{generics}
use Rattle.declarations.proofs.ReaderLemmas.{then_fails, then_reads, then_sticks}
use Rattle.declarations.proofs.item_rest.past_enum.Goals as goal

pub returns-in_err-from_generics : goal.returns-in_err-from_generics
returns-in_err-from_generics c =
    let p = err_from_is_err_and c.from_residual.result c.from_residual.ensures.1 in
    rw (p.1, p.2) (then_sticks name _ c.args.trees.now c.in_err-from_generics.field-0.0.now
    c.in_err-from_generics.ensures)

pub returns-in_err-from_clause : goal.returns-in_err-from_clause
returns-in_err-from_clause c =
    let p = err_from_is_err_and c.from_residual-in_err-from_clause.result
    c.from_residual-in_err-from_clause.ensures.1 in
    let mid = c.in_ok-from_generics.from_generics.now in
    let left = c.in_err-from_clause.field-0.0.now in
    rw (p.1, p.2) (then_fails name _ c.args.trees.now mid left c.in_ok-from_generics.ensures
    (then_sticks generics where_and_body mid left c.in_err-from_clause.ensures))

pub returns : goal.returns
returns c =
    let mid = c.in_ok-from_generics.from_generics.now in
    then_reads name _ c.args.trees.now mid c.past_where_and_body.result c.in_ok-from_generics.ensures
    (then_reads generics where_and_body mid c.in_ok-from_clause.from_clause.now c.past_where_and_body.result
    c.in_ok-from_clause.ensures c.past_where_and_body.ensures)
