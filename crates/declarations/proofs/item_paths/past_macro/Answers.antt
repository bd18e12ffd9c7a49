use Rattle.std.proofs.lemmas.Result.{err_from_is_err_and}
use Rattle.grammars.specs.Grammar.{perhaps}
use Rattle.declarations.specs.ItemRest.{round}
use Rattle.declarations.specs.rules.Bodies.{braces, name}
use Rattle.declarations.proofs.ReaderLemmas.{then_fails, then_reads, then_sticks}
use Rattle.declarations.proofs.item_paths.past_macro.Goals as goal

pub returns-in_err-from_parameters : goal.returns-in_err-from_parameters
returns-in_err-from_parameters c =
    let p = err_from_is_err_and c.from_residual.result c.from_residual.ensures.1 in
    rw (p.1, p.2) (then_sticks name _ c.args.trees.now c.in_err-from_parameters.field-0.0.now
    c.in_err-from_parameters.ensures)

pub returns-in_err-from_body : goal.returns-in_err-from_body
returns-in_err-from_body c =
    let p = err_from_is_err_and c.from_residual-in_err-from_body.result c.from_residual-in_err-from_body.ensures.1 in
    let mid = c.in_ok-from_parameters.from_parameters.now in
    let left = c.in_err-from_body.field-0.0.now in
    rw (p.1, p.2) (then_fails name _ c.args.trees.now mid left c.in_ok-from_parameters.ensures
    (then_sticks (perhaps round) braces mid left c.in_err-from_body.ensures))

pub returns : goal.returns
returns c =
    let mid = c.in_ok-from_parameters.from_parameters.now in
    then_reads name _ c.args.trees.now mid c.past_braces.result c.in_ok-from_parameters.ensures
    (then_reads (perhaps round) braces mid c.in_ok-from_body.from_body.now c.past_braces.result
    c.in_ok-from_body.ensures c.past_braces.ensures)
