use Rattle.std.proofs.Common.{◌==◌, ◌∙◌, ◌≡◌, ap, eqb-true, false, sym}
use Rattle.declarations.specs.rules.Functions.{function_item}
use Rattle.declarations.proofs.FunctionLemmas.{function_all, function_left, function_stuck, left_span}
use Rattle.declarations.proofs.FunctionLemmas.{starts_function, stuck_span}
use Rattle.declarations.proofs.ReaderLemmas.{remains_within}
use Rattle.declarations.proofs.RuleExpectsLemmas.{left_expects, stuck_expects}
use Rattle.declarations.proofs.function.parse_function.Goals as goal

pub returns-then-is_empty-clause-ok : goal.returns-then-is_empty-clause-ok
returns-then-is_empty-clause-ok c =
    function_all c.args.trees.now c.in-Ok.rest.now c.in-Ok.function c.in-Ok.ensures.0 c.in-Ok.ensures.1
    (eqb-true _ _ (sym c.if-is_empty.ensures))

pub returns-else-is_empty-clause-fault : goal.returns-else-is_empty-clause-fault
returns-else-is_empty-clause-fault c =
    function_left c.args.trees.now c.in-Ok.rest.now c.fault_by.result.at c.in-Ok.ensures.0
    (λ none. let no : false ≡ (0 == 0) = c.if-is_empty.ensures ∙ ap (λ n. n == 0) none in cc) c.fault_by.ensures.at

pub returns-else-is_empty-clause-expected : goal.returns-else-is_empty-clause-expected
returns-else-is_empty-clause-expected c =
    left_expects function_item starts_function c.args.trees.now c.in-Ok.rest.now c.fault_by.result.at
    c.fault_by.result.expected c.in-Ok.ensures.0
    (λ none. let no : false ≡ (0 == 0) = c.if-is_empty.ensures ∙ ap (λ n. n == 0) none in cc)
    c.fault_by.ensures.at c.fault_by.ensures.expected

pub returns-in-Err-clause-expected : goal.returns-in-Err-clause-expected
returns-in-Err-clause-expected c =
    stuck_expects function_item starts_function c.args.trees.now c.in-Err.left.now c.fault_by-in-Err.result.at
    c.fault_by-in-Err.result.expected c.in-Err.ensures c.fault_by-in-Err.ensures.at c.fault_by-in-Err.ensures.expected

pub returns-else-is_empty-clause-span : goal.returns-else-is_empty-clause-span
returns-else-is_empty-clause-span c =
    left_span c.args.trees.now c.in-Ok.rest.now c.fault_by.result.at c.fault_by.result.span c.in-Ok.ensures.0
    c.fault_by.ensures.at c.fault_by.ensures.span

pub returns-in-Err-clause-fault : goal.returns-in-Err-clause-fault
returns-in-Err-clause-fault c =
    function_stuck c.args.trees.now c.in-Err.left.now c.fault_by-in-Err.result.at c.in-Err.ensures
    c.fault_by-in-Err.ensures.at

pub returns-in-Err-clause-span : goal.returns-in-Err-clause-span
returns-in-Err-clause-span c =
    stuck_span c.args.trees.now c.in-Err.left.now c.fault_by-in-Err.result.at c.fault_by-in-Err.result.span
    c.in-Err.ensures c.fault_by-in-Err.ensures.at c.fault_by-in-Err.ensures.span

pub fault_by-requires : goal.fault_by-requires
fault_by-requires c = remains_within c.args.trees.now c.in-Ok.rest.now c.in-Ok.ensures.0.remains

pub fault_by-requires-in-Err : goal.fault_by-requires-in-Err
fault_by-requires-in-Err c = remains_within c.args.trees.now c.in-Err.left.now c.in-Err.ensures.remains
