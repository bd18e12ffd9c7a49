use Rattle.std.proofs.lemmas.Result.{err_from_is_err_and}
use Rattle.grammars.specs.Grammar.{Then}
use Rattle.declarations.specs.ItemRest.{round}
use Rattle.declarations.specs.rules.Bodies.{returning}
use Rattle.declarations.specs.rules.Names.{Fields, G}
use Rattle.declarations.proofs.ReaderLemmas.{mark_reads, mark_sticks, then_reads, then_sticks}
use Rattle.declarations.proofs.item_rest.past_function_rest.Goals as goal

abbrev after_label : G
after_label = Then round returning

pub returns-in_err-from_return : goal.returns-in_err-from_return
returns-in_err-from_return c =
    let p = err_from_is_err_and c.from_residual.result c.from_residual.ensures.1 in
    let left = c.in_err-from_return.field-0.0.now in
    rw (p.1, p.2) (mark_sticks Fields after_label c.args.trees.now left
    (then_sticks round returning c.args.trees.now left c.in_err-from_return.ensures))

pub returns : goal.returns
returns c =
    let mid = c.in_ok-from_return.from_return.now in
    mark_reads Fields after_label c.args.trees.now c.past_returning.result
    (then_reads round returning c.args.trees.now mid c.past_returning.result c.in_ok-from_return.ensures
    c.past_returning.ensures)
