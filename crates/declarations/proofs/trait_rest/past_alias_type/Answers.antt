use Rattle.std.proofs.lemmas.Result.{err_from_is_err_and}
use Rattle.grammars.specs.Grammar.{Mark, Then}
use Rattle.declarations.specs.rules.Names.{G, Rest, Value, one}
use Rattle.declarations.specs.rules.Parts.{where_clause}
use Rattle.declarations.specs.rules.Types.{type}
use Rattle.item_tables.specs.declared.class.SignClass.TheVariants as signs
use Rattle.declarations.proofs.ReaderLemmas.{mark_reads, mark_sticks, then_reads, then_sticks}
use Rattle.declarations.proofs.trait_rest.past_alias_type.Goals as goal

abbrev first : G
first = one signs.Equals

abbrev second : G
second = Then (Mark Value) (Then type where_clause)

pub returns-in_err-from_type : goal.returns-in_err-from_type
returns-in_err-from_type c =
    let p = err_from_is_err_and c.from_residual.result c.from_residual.ensures.1 in
    let left = c.in_err-from_type.field-0.0.now in
    rw (p.1, p.2) (mark_sticks Rest (Then first second) c.args.trees.now left
    (then_sticks first second c.args.trees.now left c.in_err-from_type.ensures))

pub returns : goal.returns
returns c =
    let mid = c.in_ok-from_type.from_type.now in
    mark_reads Rest (Then first second) c.args.trees.now c.past_type_and_where.result
    (then_reads first second c.args.trees.now mid c.past_type_and_where.result c.in_ok-from_type.ensures
    (mark_reads Value (Then type where_clause) mid c.past_type_and_where.result c.past_type_and_where.ensures))
