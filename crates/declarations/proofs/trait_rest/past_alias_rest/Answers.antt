use Rattle.std.proofs.lemmas.Result.{err_from_is_err_and}
use Rattle.grammars.specs.Grammar.{Then}
use Rattle.declarations.specs.rules.Bodies.{alias_value, semicolon}
use Rattle.declarations.specs.rules.Parts.{where_clause, with_bounds}
use Rattle.declarations.proofs.ReaderLemmas.{then_fails, then_reads, then_sticks}
use Rattle.declarations.proofs.trait_rest.past_alias_rest.Goals as goal

pub returns-in_err-from_clause : goal.returns-in_err-from_clause
returns-in_err-from_clause c =
    let p = err_from_is_err_and c.from_residual.result c.from_residual.ensures.1 in
    rw (p.1, p.2) (then_sticks with_bounds _ c.args.trees.now c.in_err-from_clause.field-0.0.now
    c.in_err-from_clause.ensures)

pub returns-in_err-from_value : goal.returns-in_err-from_value
returns-in_err-from_value c =
    let p = err_from_is_err_and c.from_residual-in_err-from_value.result c.from_residual-in_err-from_value.ensures.1 in
    let mid = c.in_ok-from_clause.from_clause.now in
    let left = c.in_err-from_value.field-0.0.now in
    rw (p.1, p.2) (then_fails with_bounds _ c.args.trees.now mid left c.in_ok-from_clause.ensures
    (then_sticks where_clause (Then alias_value semicolon) mid left c.in_err-from_value.ensures))

pub returns : goal.returns
returns c =
    let mid = c.in_ok-from_clause.from_clause.now in
    then_reads with_bounds _ c.args.trees.now mid c.past_alias_end.result c.in_ok-from_clause.ensures
    (then_reads where_clause (Then alias_value semicolon) mid c.in_ok-from_value.from_value.now c.past_alias_end.result
    c.in_ok-from_value.ensures c.past_alias_end.ensures)
