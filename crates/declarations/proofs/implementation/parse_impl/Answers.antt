use Rattle.std.proofs.Common.{◌==◌, ◌∙◌, ◌≡◌, ap, eqb-true, false, sym}
use Rattle.declarations.specs.rules.ImplItems.{impl_item}
use Rattle.declarations.proofs.ImplLemmas.{item_all, item_left, item_stuck, left_span, starts_item, stuck_span}
use Rattle.declarations.proofs.ReaderLemmas.{remains_within}
use Rattle.declarations.proofs.RuleExpectsLemmas.{left_expects, stuck_expects}
use Rattle.declarations.proofs.implementation.parse_impl.Goals as goal

pub fault_by-requires : goal.fault_by-requires
fault_by-requires c = remains_within c.args.trees.now c.in-Ok.rest.now c.in-Ok.ensures.0.remains

pub fault_by-requires-in-Err : goal.fault_by-requires-in-Err
fault_by-requires-in-Err c = remains_within c.args.trees.now c.in-Err.left.now c.in-Err.ensures.remains

pub returns-then-is_empty-clause-ok : goal.returns-then-is_empty-clause-ok
returns-then-is_empty-clause-ok c =
    item_all c.args.trees.now c.in-Ok.rest.now c.in-Ok.item c.in-Ok.ensures.0 c.in-Ok.ensures.1
    (eqb-true _ _ (sym c.if-is_empty.ensures))

pub returns-else-is_empty-clause-fault : goal.returns-else-is_empty-clause-fault
returns-else-is_empty-clause-fault c =
    item_left c.args.trees.now c.in-Ok.rest.now c.fault_by.result.at c.in-Ok.ensures.0
    (λ none. let no : false ≡ (0 == 0) = c.if-is_empty.ensures ∙ ap (λ n. n == 0) none in cc) c.fault_by.ensures.at

pub returns-else-is_empty-clause-span : goal.returns-else-is_empty-clause-span
returns-else-is_empty-clause-span c =
    left_span c.args.trees.now c.in-Ok.rest.now c.fault_by.result.at c.fault_by.result.span c.in-Ok.ensures.0
    c.fault_by.ensures.at c.fault_by.ensures.span

pub returns-else-is_empty-clause-expected : goal.returns-else-is_empty-clause-expected
returns-else-is_empty-clause-expected c =
    left_expects impl_item starts_item c.args.trees.now c.in-Ok.rest.now c.fault_by.result.at c.fault_by.result.expected
    c.in-Ok.ensures.0 (λ none. let no : false ≡ (0 == 0) = c.if-is_empty.ensures ∙ ap (λ n. n == 0) none in cc)
    c.fault_by.ensures.at c.fault_by.ensures.expected

pub returns-in-Err-clause-fault : goal.returns-in-Err-clause-fault
returns-in-Err-clause-fault c =
    item_stuck c.args.trees.now c.in-Err.left.now c.fault_by-in-Err.result.at c.in-Err.ensures
    c.fault_by-in-Err.ensures.at

pub returns-in-Err-clause-span : goal.returns-in-Err-clause-span
returns-in-Err-clause-span c =
    stuck_span c.args.trees.now c.in-Err.left.now c.fault_by-in-Err.result.at c.fault_by-in-Err.result.span
    c.in-Err.ensures c.fault_by-in-Err.ensures.at c.fault_by-in-Err.ensures.span

pub returns-in-Err-clause-expected : goal.returns-in-Err-clause-expected
returns-in-Err-clause-expected c =
    stuck_expects impl_item starts_item c.args.trees.now c.in-Err.left.now c.fault_by-in-Err.result.at
    c.fault_by-in-Err.result.expected c.in-Err.ensures c.fault_by-in-Err.ensures.at c.fault_by-in-Err.ensures.expected
