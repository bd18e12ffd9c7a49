use Rattle.std.proofs.lemmas.Result.{err_from_is_err_and}
use Rattle.grammars.specs.Grammar.{Then}
use Rattle.item_tables.specs.declared.class.SignClass.TheVariants as signs
use Rattle.declarations.specs.rules.Bodies.{semicolon}
use Rattle.declarations.specs.rules.Names.{Bounds, Rest, one}
use Rattle.declarations.specs.rules.Parts.{where_clause}
use Rattle.declarations.specs.rules.Types.{bounds}
use Rattle.declarations.proofs.ReaderLemmas.{mark_reads, mark_sticks, then_fails, then_reads, then_sticks}
use Rattle.declarations.proofs.trait_rest.past_trait_alias.Goals as goal

pub returns-in_err-from_bounds : goal.returns-in_err-from_bounds
returns-in_err-from_bounds c =
    let p = err_from_is_err_and c.from_residual.result c.from_residual.ensures.1 in
    let left = c.in_err-from_bounds.field-0.0.now in
    rw (p.1, p.2) (mark_sticks Rest _ c.args.trees.now left
    (then_sticks (one signs.Equals) _ c.args.trees.now left c.in_err-from_bounds.ensures))

pub returns-in_err-from_clause : goal.returns-in_err-from_clause
returns-in_err-from_clause c =
    let p = err_from_is_err_and c.from_residual-in_err-from_clause.result
    c.from_residual-in_err-from_clause.ensures.1 in
    let from_bounds = c.in_ok-from_bounds.from_bounds.now in
    let left = c.in_err-from_clause.field-0.0.now in
    rw (p.1, p.2) (mark_sticks Rest _ c.args.trees.now left
    (then_fails (one signs.Equals) _ c.args.trees.now from_bounds left c.in_ok-from_bounds.ensures
    (mark_sticks Bounds _ from_bounds left (then_sticks bounds _ from_bounds left c.in_err-from_clause.ensures))))

pub returns : goal.returns
returns c =
    let from_bounds = c.in_ok-from_bounds.from_bounds.now in
    let result = c.past_clause_end.result in
    mark_reads Rest _ c.args.trees.now result
    (then_reads (one signs.Equals) _ c.args.trees.now from_bounds result c.in_ok-from_bounds.ensures
    (mark_reads Bounds _ from_bounds result
    (then_reads bounds (Then where_clause semicolon) from_bounds c.in_ok-from_clause.from_clause.now result
    c.in_ok-from_clause.ensures c.past_clause_end.ensures)))
