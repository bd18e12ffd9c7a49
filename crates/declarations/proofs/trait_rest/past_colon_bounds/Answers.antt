use Rattle.std.proofs.lemmas.Result.{err_from_is_err_and}
use Rattle.grammars.specs.Grammar.{Mark, Then}
use Rattle.declarations.specs.rules.Names.{Bounds, G, Rest, one}
use Rattle.declarations.specs.rules.Types.{bounds}
use Rattle.item_tables.specs.declared.class.SignClass.TheVariants as signs
use Rattle.declarations.proofs.ReaderLemmas.{mark_reads, mark_sticks, then_reads, then_sticks}
use Rattle.declarations.proofs.trait_rest.past_colon_bounds.Goals as goal

abbrev first : G
first = one signs.Colon

abbrev second : G
second = Then (Mark Bounds) bounds

pub returns-in_err-from_bounds : goal.returns-in_err-from_bounds
returns-in_err-from_bounds c =
    let p = err_from_is_err_and c.from_residual.result c.from_residual.ensures.1 in
    let left = c.in_err-from_bounds.field-0.0.now in
    rw (p.1, p.2) (mark_sticks Rest (Then first second) c.args.trees.now left
    (then_sticks first second c.args.trees.now left c.in_err-from_bounds.ensures))

pub returns : goal.returns
returns c =
    let mid = c.in_ok-from_bounds.from_bounds.now in
    mark_reads Rest (Then first second) c.args.trees.now c.past_bounds.result
    (then_reads first second c.args.trees.now mid c.past_bounds.result c.in_ok-from_bounds.ensures
    (mark_reads Bounds bounds mid c.past_bounds.result c.past_bounds.ensures))
