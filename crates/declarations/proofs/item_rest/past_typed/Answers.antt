use Rattle.std.proofs.lemmas.Result.{err_from_is_err_and}
use Rattle.grammars.specs.Grammar.{Then}
use Rattle.item_tables.specs.declared.class.SignClass.TheVariants as signs
use Rattle.declarations.specs.rules.Bodies.{constant_value, semicolon}
use Rattle.declarations.specs.rules.Names.{OfType, Rest, one}
use Rattle.declarations.specs.rules.Types.{type}
use Rattle.declarations.proofs.ReaderLemmas.{mark_reads, mark_sticks, then_fails, then_reads, then_sticks}
use Rattle.declarations.proofs.item_rest.past_typed.Goals as goal

pub returns-in_err-from_type : goal.returns-in_err-from_type
returns-in_err-from_type c =
    let p = err_from_is_err_and c.from_residual.result c.from_residual.ensures.1 in
    let left = c.in_err-from_type.field-0.0.now in
    rw (p.1, p.2) (mark_sticks Rest _ c.args.trees.now left
    (then_sticks (one signs.Colon) _ c.args.trees.now left c.in_err-from_type.ensures))

pub returns-in_err-from_value : goal.returns-in_err-from_value
returns-in_err-from_value c =
    let p = err_from_is_err_and c.from_residual-in_err-from_value.result
    c.from_residual-in_err-from_value.ensures.1 in
    let from_type = c.in_ok-from_type.from_type.now in
    let left = c.in_err-from_value.field-0.0.now in
    rw (p.1, p.2) (mark_sticks Rest _ c.args.trees.now left
    (then_fails (one signs.Colon) _ c.args.trees.now from_type left c.in_ok-from_type.ensures
    (mark_sticks OfType _ from_type left (then_sticks type _ from_type left c.in_err-from_value.ensures))))

pub returns : goal.returns
returns c =
    let from_type = c.in_ok-from_type.from_type.now in
    let result = c.past_constant_end.result in
    mark_reads Rest _ c.args.trees.now result
    (then_reads (one signs.Colon) _ c.args.trees.now from_type result c.in_ok-from_type.ensures
    (mark_reads OfType _ from_type result
    (then_reads type (Then constant_value semicolon) from_type c.in_ok-from_value.from_value.now result
    c.in_ok-from_value.ensures c.past_constant_end.ensures)))
