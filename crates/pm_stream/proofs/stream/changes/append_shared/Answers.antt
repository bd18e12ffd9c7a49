use Rattle.std.proofs.Common.{◌∙◌, ap, ap₂, is_ok, sym}
use Rattle.std.proofs.lemmas.Result.{err_from_is_err_and, on_err_weaker, on_ok_weaker}
use Rattle.pm_stream.specs.Forest.{chain}
use Rattle.pm_stream.specs.Trees.{forest, shared_trees}
use Rattle.pm_stream.proofs.BuildingLemmas.{clones_same}
use Rattle.pm_stream.proofs.stream.changes.append_shared.Goals as goal

pub returns-in_err-own-clause-ok : goal.returns-in_err-own-clause-ok
returns-in_err-own-clause-ok c =
    let p = err_from_is_err_and c.from_residual.result c.from_residual.ensures.1 in rw p.1 tt

pub returns-in_err-own-clause-err : goal.returns-in_err-own-clause-err
returns-in_err-own-clause-err c =
    let p = err_from_is_err_and c.from_residual.result c.from_residual.ensures.1 in
    rw p.1 (ap shared_trees (sym c.in-Some.is))

pub returns-in_err-make_mut-clause-ok : goal.returns-in_err-make_mut-clause-ok
returns-in_err-make_mut-clause-ok c =
    let back = c.from_residual-in_err-make_mut in
    let p = err_from_is_err_and back.result back.ensures.1 in rw p.1 tt

pub returns-in_err-make_mut-clause-err : goal.returns-in_err-make_mut-clause-err
returns-in_err-make_mut-clause-err c =
    let back = c.from_residual-in_err-make_mut in
    let p = err_from_is_err_and back.result back.ensures.1 in
    rw p.1 (ap forest (clones_same _ _ (rw c.in_err-make_mut.was at c.make_mut.follows.holds-at-none))
    ∙ ap shared_trees (sym c.in-Some.is))

pub returns-in-Some-clause-ok : goal.returns-in-Some-clause-ok
returns-in-Some-clause-ok c =
    let held = ap forest (clones_same _ _ c.in_ok-make_mut.ensures.value) ∙ ap shared_trees (sym c.in-Some.is) in
    let back = ap (λ v. forest v.items)
    (c.make_mut.follows.holds c.push_all.new.trees (ap is_ok c.in_ok-make_mut.was)) in
    on_ok_weaker c.push_all.result
    (λ more. back ∙ (more ∙ ap₂ chain held (ap forest c.in_ok-own.ensures))) c.push_all.ensures.ok

pub returns-in-Some-clause-err : goal.returns-in-Some-clause-err
returns-in-Some-clause-err c =
    let held = ap forest (clones_same _ _ c.in_ok-make_mut.ensures.value) ∙ ap shared_trees (sym c.in-Some.is) in
    let back = ap (λ v. forest v.items)
    (c.make_mut.follows.holds c.push_all.new.trees (ap is_ok c.in_ok-make_mut.was)) in
    on_err_weaker c.push_all.result
    (λ same. back ∙ (same ∙ held))
    c.push_all.ensures.err

pub returns-clause-ok : goal.returns-clause-ok
returns-clause-ok c =
    ap (λ o. chain (shared_trees o) (forest c.args.more.value.items)) (sym c.in_default.is)
