use Rattle.std.proofs.Common.{◌==◌, ◌∙◌, ◌≡◌, ap, eqb-true, false, subst, sym}
use Rattle.declarations.specs.Expected.{Expects}
use Rattle.declarations.specs.rules.Paths.{type_path}
use Rattle.declarations.specs.rules.Pieces.{ByRule}
use Rattle.declarations.proofs.ReaderLemmas.{remains_within}
use Rattle.declarations.proofs.RuleExpectsLemmas.{left_expects, stuck_expects}
use Rattle.declarations.proofs.TypePathLemmas.{
  left_span,
  promise_left,
  promise_path,
  promise_stuck,
  starts_path,
  stuck_span,
}
use Rattle.declarations.proofs.type_path.parse_type_path.Goals as goal

pub fault_in_path-requires : goal.fault_in_path-requires
fault_in_path-requires c = remains_within c.bare_trees-inner.result.now c.in-Ok.rest.now c.in-Ok.ensures.0.remains

pub fault_in_path-requires-in-Err : goal.fault_in_path-requires-in-Err
fault_in_path-requires-in-Err c =
    remains_within c.bare_trees-inner.result.now c.in-Err.left.now c.in-Err.ensures.remains

pub returns-then-is_empty-clause-ok : goal.returns-then-is_empty-clause-ok
returns-then-is_empty-clause-ok c =
    promise_path c.args.trees.now c.bare_trees-inner.result.now c.in-Ok.rest.now c.in-Ok.path c.bare_trees-inner.ensures
    c.in-Ok.ensures.0 c.in-Ok.ensures.1 (eqb-true _ _ (sym c.if-is_empty.ensures))

pub returns-else-is_empty-clause-fault : goal.returns-else-is_empty-clause-fault
returns-else-is_empty-clause-fault c =
    promise_left c.args.trees.now c.bare_trees-inner.result.now c.in-Ok.rest.now c.fault_in_path.result.at
    c.bare_trees-inner.ensures
    c.in-Ok.ensures.0
    (λ none. let no : false ≡ (0 == 0) = c.if-is_empty.ensures ∙ ap (λ n. n == 0) none in cc)
    c.fault_in_path.ensures.at

pub returns-else-is_empty-clause-span : goal.returns-else-is_empty-clause-span
returns-else-is_empty-clause-span c =
    left_span c.args.trees.now c.bare_trees-inner.result.now c.in-Ok.rest.now c.fault_in_path.result.at
    c.fault_in_path.result.span c.bare_trees-inner.ensures c.in-Ok.ensures.0 c.fault_in_path.ensures.at
    c.fault_in_path.ensures.span

pub returns-else-is_empty-clause-expected : goal.returns-else-is_empty-clause-expected
returns-else-is_empty-clause-expected c =
    subst (λ trees. Expects (ByRule type_path) trees c.fault_in_path.result.at c.fault_in_path.result.expected)
    c.bare_trees-inner.ensures
    (left_expects type_path starts_path c.bare_trees-inner.result.now c.in-Ok.rest.now c.fault_in_path.result.at
    c.fault_in_path.result.expected c.in-Ok.ensures.0
    (λ none. let no : false ≡ (0 == 0) = c.if-is_empty.ensures ∙ ap (λ n. n == 0) none in cc)
    c.fault_in_path.ensures.at c.fault_in_path.ensures.expected)

pub returns-in-Err-clause-fault : goal.returns-in-Err-clause-fault
returns-in-Err-clause-fault c =
    promise_stuck c.args.trees.now c.bare_trees-inner.result.now c.in-Err.left.now c.fault_in_path-in-Err.result.at
    c.bare_trees-inner.ensures c.in-Err.ensures c.fault_in_path-in-Err.ensures.at

pub returns-in-Err-clause-span : goal.returns-in-Err-clause-span
returns-in-Err-clause-span c =
    stuck_span c.args.trees.now c.bare_trees-inner.result.now c.in-Err.left.now c.fault_in_path-in-Err.result.at
    c.fault_in_path-in-Err.result.span c.bare_trees-inner.ensures c.in-Err.ensures c.fault_in_path-in-Err.ensures.at
    c.fault_in_path-in-Err.ensures.span

pub returns-in-Err-clause-expected : goal.returns-in-Err-clause-expected
returns-in-Err-clause-expected c =
    subst (λ trees. Expects (ByRule type_path) trees c.fault_in_path-in-Err.result.at
    c.fault_in_path-in-Err.result.expected) c.bare_trees-inner.ensures
    (stuck_expects type_path starts_path c.bare_trees-inner.result.now c.in-Err.left.now
    c.fault_in_path-in-Err.result.at c.fault_in_path-in-Err.result.expected c.in-Err.ensures
    c.fault_in_path-in-Err.ensures.at c.fault_in_path-in-Err.ensures.expected)
