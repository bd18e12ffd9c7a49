use Rattle.std.proofs.lemmas.Result.{err_from_is_err_and}
use Rattle.declarations.specs.ItemRest.{round}
use Rattle.declarations.specs.rules.Bodies.{semicolon}
use Rattle.declarations.specs.rules.Names.{Fields}
use Rattle.declarations.specs.rules.Parts.{where_clause}
use Rattle.declarations.proofs.ReaderLemmas.{mark_reads, mark_sticks, then_fails, then_reads, then_sticks}
use Rattle.declarations.proofs.item_rest.past_tuple.Goals as goal

pub returns-in_err-from_clause : goal.returns-in_err-from_clause
returns-in_err-from_clause c =
    let p = err_from_is_err_and c.from_residual.result c.from_residual.ensures.1 in
    let left = c.in_err-from_clause.field-0.0.now in
    rw (p.1, p.2) (mark_sticks Fields _ c.args.trees.now left
    (then_sticks round _ c.args.trees.now left c.in_err-from_clause.ensures))

pub returns-in_err-from_end : goal.returns-in_err-from_end
returns-in_err-from_end c =
    let p = err_from_is_err_and c.from_residual-in_err-from_end.result c.from_residual-in_err-from_end.ensures.1 in
    let mid = c.in_ok-from_clause.from_clause.now in
    let left = c.in_err-from_end.field-0.0.now in
    rw (p.1, p.2) (mark_sticks Fields _ c.args.trees.now left
    (then_fails round _ c.args.trees.now mid left c.in_ok-from_clause.ensures
    (then_sticks where_clause semicolon mid left c.in_err-from_end.ensures)))

pub returns : goal.returns
returns c =
    let mid = c.in_ok-from_clause.from_clause.now in
    let result = c.past_semicolon.result in
    mark_reads Fields _ c.args.trees.now result
    (then_reads round _ c.args.trees.now mid result c.in_ok-from_clause.ensures
    (then_reads where_clause semicolon mid c.in_ok-from_end.from_end.now result c.in_ok-from_end.ensures
    c.past_semicolon.ensures))
