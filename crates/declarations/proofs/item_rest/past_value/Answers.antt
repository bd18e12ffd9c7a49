use Rattle.std.proofs.lemmas.Result.{err_from_is_err_and}
use Rattle.grammars.specs.Grammar.{Mark, Then}
use Rattle.declarations.specs.rules.Bodies.{until}
use Rattle.declarations.specs.rules.Names.{G, Rest, Value, one}
use Rattle.item_tables.specs.declared.class.SignClass.TheVariants as signs
use Rattle.declarations.proofs.ReaderLemmas.{mark_reads, mark_sticks, then_reads, then_sticks}
use Rattle.declarations.proofs.item_rest.past_value.Goals as goal

abbrev first : G
first = one signs.Equals

abbrev second : G
second = Then (Mark Value) until

pub returns-in_err-from_value : goal.returns-in_err-from_value
returns-in_err-from_value c =
    let p = err_from_is_err_and c.from_residual.result c.from_residual.ensures.1 in
    let left = c.in_err-from_value.field-0.0.now in
    rw (p.1, p.2) (mark_sticks Rest (Then first second) c.args.trees.now left
    (then_sticks first second c.args.trees.now left c.in_err-from_value.ensures))

pub returns : goal.returns
returns c =
    let mid = c.in_ok-from_value.from_value.now in
    mark_reads Rest (Then first second) c.args.trees.now c.past_until.result
    (then_reads first second c.args.trees.now mid c.past_until.result c.in_ok-from_value.ensures
    (mark_reads Value until mid c.past_until.result c.past_until.ensures))
