use Rattle.std.proofs.Common.{[], ◌-◌, ◌∙◌, ◌≡◌, List, ap, arith, eqb-true, inl, inr, length, subst, sym}
use Rattle.std.proofs.lemmas.List.{length-append, nil_from_length}
use Rattle.declarations.specs.Entry.{IsPlainEntryAt, IsPlainEntryFault}
use Rattle.declarations.specs.Fault.{first_extent}
use Rattle.declarations.specs.declared.entry.Entry.{Entry}
use Rattle.declarations.specs.declared.fault.Fault.{Fault}
use Rattle.declarations.specs.rules.Entries.{entry}
use Rattle.declarations.specs.rules.Pieces.{ByRule}
use Rattle.pm_stream.specs.declared.stream.TokenTree.{TokenTree}
use Rattle.declarations.proofs.EntryExpectsLemmas.{plain_left}
use Rattle.declarations.proofs.HeldLemmas.{no_rest}
use Rattle.declarations.proofs.ListLemmas.{part_span, rest_within}
use Rattle.declarations.proofs.entry.whole_plain_entry.Goals as goal

-- an entry is read, and trees are left after it
left_over : (trees rest : List TokenTree) (found : Entry) (fault : Fault) → IsPlainEntryAt trees found rest
    → (rest ≡ [] → ⊥) → fault.at ≡ length trees - length rest → fault.span ≡ first_extent rest
    → IsPlainEntryFault trees fault
left_over trees rest found fault is some counted first =
    let sum = ap length is.reads.whole ∙ length-append is.part rest in
    let count : fault.at ≡ length is.part = omega arith in
    record {
      place = inr (record { part = is.part; rest = rest; reads = is.reads; counted = count; some = some });
      span = part_span trees is.part rest fault.at fault.span is.reads.whole count first;
    }

pub returns-else-is_empty-clause-expected : goal.returns-else-is_empty-clause-expected
returns-else-is_empty-clause-expected c =
    plain_left c.args.trees.now c.in-Ok.left.now c.in-Ok.entry c.fault_by.result.at c.fault_by.result.expected
    c.in-Ok.ensures.ok (no_rest c.in-Ok.left.now c.is_empty.result c.is_empty.ensures c.if-is_empty.false)
    c.fault_by.ensures.at c.fault_by.ensures.expected

pub fault_by-requires : goal.fault_by-requires
fault_by-requires c =
    rest_within (ByRule entry) c.args.trees.now c.in-Ok.ensures.ok.part c.in-Ok.left.now c.in-Ok.ensures.ok.reads

pub returns-then-is_empty-clause-ok : goal.returns-then-is_empty-clause-ok
returns-then-is_empty-clause-ok c =
    subst (IsPlainEntryAt c.args.trees.now c.in-Ok.entry)
    (nil_from_length c.in-Ok.left.now (eqb-true _ _ (sym c.if-is_empty.ensures))) c.in-Ok.ensures.ok

pub returns-in-Err-clause-err : goal.returns-in-Err-clause-err
returns-in-Err-clause-err c =
    record { place = inl c.in-Err.ensures.fault.place; span = c.in-Err.ensures.fault.span }

pub returns-else-is_empty-clause-err : goal.returns-else-is_empty-clause-err
returns-else-is_empty-clause-err c =
    left_over c.args.trees.now c.in-Ok.left.now c.in-Ok.entry c.fault_by.result c.in-Ok.ensures.ok
    (no_rest c.in-Ok.left.now c.is_empty.result c.is_empty.ensures c.if-is_empty.false) c.fault_by.ensures.at
    c.fault_by.ensures.span

pub returns-in-Err-clause-expected : goal.returns-in-Err-clause-expected
returns-in-Err-clause-expected c = c.in-Err.ensures.expected
