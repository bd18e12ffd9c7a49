use Rattle.std.proofs.lemmas.Result.{err_from_is_err_and}
use Rattle.grammars.specs.Grammar.{Sign, Then}
use Rattle.declarations.specs.ItemRest.{is_call_group}
use Rattle.declarations.specs.rules.Bodies.{semicolon}
use Rattle.declarations.specs.rules.Names.{Body, G}
use Rattle.declarations.proofs.ReaderLemmas.{mark_reads, mark_sticks, then_reads, then_sticks}
use Rattle.declarations.proofs.item_paths.past_round_call.Goals as goal

abbrev after_label : G
after_label = Then (Sign is_call_group) semicolon

pub returns-in_err-from_end : goal.returns-in_err-from_end
returns-in_err-from_end c =
    let p = err_from_is_err_and c.from_residual.result c.from_residual.ensures.1 in
    let left = c.in_err-from_end.field-0.0.now in
    rw (p.1, p.2) (mark_sticks Body after_label c.args.trees.now left
    (then_sticks (Sign is_call_group) semicolon c.args.trees.now left c.in_err-from_end.ensures))

pub returns : goal.returns
returns c =
    let mid = c.in_ok-from_end.from_end.now in
    mark_reads Body after_label c.args.trees.now c.past_semicolon.result
    (then_reads (Sign is_call_group) semicolon c.args.trees.now mid c.past_semicolon.result c.in_ok-from_end.ensures
    c.past_semicolon.ensures)
