use Rattle.std.proofs.lemmas.Result.{err_from_is_err_and}
use Rattle.declarations.proofs.FunctionLemmas.{clause_sticks, end_finds, end_has, end_sticks, return_sticks}
use Rattle.declarations.proofs.function.end_of.Goals as goal

pub returns : goal.returns
returns c =
    let returned = c.in_ok-return_type.ensures in
    let body = c.in_ok-body.ensures in (
      end_finds c.args.trees.now c.in_ok-return_type.from_clause.now c.in_ok-from_body.from_body.now
          c.in_ok-body.rest.now returned.0 c.in_ok-from_body.ensures body.0,
      end_has c.args.trees.now c.in_ok-return_type.from_clause.now c.in_ok-from_body.from_body.now
          c.in_ok-body.rest.now c.in_ok-return_type.return_type.now c.part-where_clause.result.now c.in_ok-body.body
          returned.1 c.in_ok-from_body.ensures c.part-where_clause.ensures body.1,
    )

pub part-where_clause-requires : goal.part-where_clause-requires
part-where_clause-requires c = c.in_ok-from_body.ensures.remains

pub returns-in_err-return_type : goal.returns-in_err-return_type
returns-in_err-return_type c =
    let p = err_from_is_err_and c.from_residual.result c.from_residual.ensures.1 in
    rw (p.1, p.2) (return_sticks c.args.trees.now c.in_err-return_type.field-0.0.now c.in_err-return_type.ensures)

pub returns-in_err-from_body : goal.returns-in_err-from_body
returns-in_err-from_body c =
    let p = err_from_is_err_and c.from_residual-in_err-from_body.result c.from_residual-in_err-from_body.ensures.1 in
    rw (p.1, p.2) (clause_sticks c.args.trees.now c.in_ok-return_type.from_clause.now
    c.in_err-from_body.field-0.0.now c.in_ok-return_type.ensures.0 c.in_err-from_body.ensures)

pub returns-in_err-body : goal.returns-in_err-body
returns-in_err-body c =
    let p = err_from_is_err_and c.from_residual-in_err-body.result c.from_residual-in_err-body.ensures.1 in
    rw (p.1, p.2) (end_sticks c.args.trees.now c.in_ok-return_type.from_clause.now c.in_ok-from_body.from_body.now
    c.in_err-body.field-0.0.now c.in_ok-return_type.ensures.0 c.in_ok-from_body.ensures c.in_err-body.ensures)
