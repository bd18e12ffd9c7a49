use Rattle.std.proofs.Common.{sym, subst, []}
use Rattle.declarations.specs.Entry.{IsEntryAt, IsEntryFault}
use Rattle.declarations.specs.EntryExpects.{ExpectsEntry}
use Rattle.declarations.proofs.AttributeLemmas.{held_trees}
use Rattle.declarations.proofs.EndingLemmas.{ends_at, expected_within}
use Rattle.declarations.proofs.attribute.Attribute.entry.Goals as goal

pub returns-in-Ok-clause-ok : goal.returns-in-Ok-clause-ok
returns-in-Ok-clause-ok c =
    let held = held_trees c.trees.result.now _ _ c.trees.ensures.value c.stream_ref.ensures.value in
    subst (λ trees. IsEntryAt trees c.in-Ok.entry []) (sym held) c.in-Ok.ensures.ok

pub returns-in-Err-clause-err : goal.returns-in-Err-clause-err
returns-in-Err-clause-err c =
    let held = held_trees c.trees.result.now _ _ c.trees.ensures.value c.stream_ref.ensures.value in
    ends_at _ _ _ _ (subst (λ trees. IsEntryFault trees c.in-Err.fault) (sym held) c.in-Err.ensures.err)
    c.within.ensures

pub returns-in-Err-clause-expected : goal.returns-in-Err-clause-expected
returns-in-Err-clause-expected c =
    let held = held_trees c.trees.result.now _ _ c.trees.ensures.value c.stream_ref.ensures.value in
    expected_within _ c.in-Err.fault c.within.result _ c.within.ensures
    (subst (λ trees. ExpectsEntry trees c.in-Err.fault.at c.in-Err.fault.expected) (sym held)
    c.in-Err.ensures.expected)
