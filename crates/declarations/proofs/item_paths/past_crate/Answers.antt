use Rattle.std.proofs.lemmas.Result.{err_from_is_err_and}
use Rattle.grammars.specs.Grammar.{Mark, Then}
use Rattle.declarations.specs.ItemRest.{use_end}
use Rattle.declarations.specs.rules.Fronts.{crate_name}
use Rattle.declarations.specs.rules.Names.{G, Named, Rest}
use Rattle.declarations.proofs.ReaderLemmas.{mark_reads, mark_sticks, then_reads, then_sticks}
use Rattle.declarations.proofs.item_paths.past_crate.Goals as goal

abbrev first : G
first = crate_name

abbrev second : G
second = Then (Mark Rest) use_end

pub returns-in_err-from_as : goal.returns-in_err-from_as
returns-in_err-from_as c =
    let p = err_from_is_err_and c.from_residual.result c.from_residual.ensures.1 in
    let left = c.in_err-from_as.field-0.0.now in
    rw (p.1, p.2) (mark_sticks Named (Then first second) c.args.trees.now left
    (then_sticks first second c.args.trees.now left c.in_err-from_as.ensures))

pub returns : goal.returns
returns c =
    let mid = c.in_ok-from_as.from_as.now in
    mark_reads Named (Then first second) c.args.trees.now c.past_use_end.result
    (then_reads first second c.args.trees.now mid c.past_use_end.result c.in_ok-from_as.ensures
    (mark_reads Rest use_end mid c.past_use_end.result c.past_use_end.ensures))
