use Rattle.std.proofs.Common.{◌∙◌, ◌≤◌, inl, List, length, arith, subst, sym}
use Rattle.std.proofs.lemmas.Result.{err_from_is_err_and}
use Rattle.pm_stream.specs.declared.stream.TokenTree.{TokenTree}
use Rattle.declarations.specs.Expected.{Expects}
use Rattle.declarations.specs.File.{IsFile}
use Rattle.declarations.specs.Forms.{IsAnyItem}
use Rattle.declarations.proofs.FileLemmas.{all_read, any_err, fault_extent, item_fault, left_fits, none_read, not_empty}
use Rattle.declarations.proofs.FileLemmas.{not_file, one_read}
use Rattle.declarations.proofs.file.parse_file.Goals as goal

pub returns-in_err-inner-clause-none : goal.returns-in_err-inner-clause-none
returns-in_err-inner-clause-none c =
    any_err c.from_residual.result ((inner items : List TokenTree) → IsFile c.args.trees.now inner items → ⊥)
    (λ inner items file. c.in_err-inner.ensures.fault.nothing inner items file.inner_read)

pub returns-in_err-inner-clause-fault : goal.returns-in_err-inner-clause-fault
returns-in_err-inner-clause-fault c =
    let p = err_from_is_err_and c.from_residual.result c.from_residual.ensures.1 in
    rw (p.1, p.2) (inl (c.in_err-inner.ensures.fault, c.in_err-inner.ensures.expected))

pub returns-in_err-inner-clause-span : goal.returns-in_err-inner-clause-span
returns-in_err-inner-clause-span c =
    let p = err_from_is_err_and c.from_residual.result c.from_residual.ensures.1 in
    rw (p.1, p.2) c.in_err-inner.ensures.span

pub loop-left-init : goal.loop-left-init
loop-left-init c =
    none_read c.args.trees.now c.in_ok-inner.inner.now c.in_ok-inner.items.now c.in_ok-inner.ensures.ok

pub loop-left-preserved : goal.loop-left-preserved
loop-left-preserved c =
    one_read c.args.trees.now c.in_ok-inner.items.now c.loop-left.left.now c.in-Ok.field-0-0.trees.now
    c.in-Ok.rest.now c.loop-left.invariant c.in-Ok.ensures.ok

pub returns-in-Err-clause-span : goal.returns-in-Err-clause-span
returns-in-Err-clause-span c =
    let fits : length c.loop-left.left.now ≤ length c.args.trees.now =
    left_fits c.args.trees.now c.in_ok-inner.items.now c.loop-left.left.now c.loop-left.invariant in
    c.after.ensures.span ∙ c.in-Err.ensures.span
    ∙ fault_extent c.args.trees.now c.in_ok-inner.items.now c.loop-left.left.now c.in-Err.fault.at _
    c.loop-left.invariant (omega arith)

pub returns-in-Err-clause-none : goal.returns-in-Err-clause-none
returns-in-Err-clause-none c = λ inner items.
    not_file c.args.trees.now c.in_ok-inner.inner.now c.in_ok-inner.items.now c.loop-left.left.now inner items
    c.in-Err.fault.at c.in_ok-inner.ensures.ok c.loop-left.invariant
    (not_empty c.loop-left.left.now c.loop-left-test.ensures) c.in-Err.ensures.fault

pub loop-left-smaller : goal.loop-left-smaller
loop-left-smaller c = c.in-Ok.ensures.fewer

pub overflow_sub-at : goal.overflow_sub-at
overflow_sub-at c =
    left_fits c.args.trees.now c.in_ok-inner.items.now c.loop-left.left.now c.loop-left.invariant

pub returns-in-Err-clause-fault : goal.returns-in-Err-clause-fault
returns-in-Err-clause-fault c =
    item_fault c.args.trees.now c.in_ok-inner.inner.now c.in_ok-inner.items.now c.loop-left.left.now
    c.in-Err.fault.at c.after.result.at c.after.result.expected c.in_ok-inner.ensures.ok c.loop-left.invariant
    (not_empty c.loop-left.left.now c.loop-left-test.ensures) c.in-Err.ensures.fault
    (subst (Expects IsAnyItem c.loop-left.left.now c.in-Err.fault.at) (sym c.after.ensures.expected)
    c.in-Err.ensures.expected) c.after.ensures.at

pub returns-clause-ok : goal.returns-clause-ok
returns-clause-ok c = record {
  inner_read = c.in_ok-inner.ensures.ok;
  are_items = all_read c.args.trees.now c.in_ok-inner.items.now c.loop-left.left.now c.loop-left.invariant
      c.loop-left-test.ensures;
}
