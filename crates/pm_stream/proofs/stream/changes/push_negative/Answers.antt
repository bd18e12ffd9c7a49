use Rattle.std.proofs.Common.{◌∙◌, ap, is_ok, sym}
use Rattle.std.proofs.lemmas.Result.{err_from_is_err_and, on_err_weaker, on_ok_weaker}
use Rattle.pm_stream.specs.Forest.{chain}
use Rattle.pm_stream.specs.Trees.{alone, before, forest, shared_trees}
use Rattle.pm_stream.specs.declared.stream.TokenTree.TheVariants.{Literal, Punct}
use Rattle.pm_stream.proofs.BuildingLemmas.{clones_same}
use Rattle.pm_stream.proofs.stream.changes.push_negative.Goals as goal

pub returns-in_err-make_list-clause-ok : goal.returns-in_err-make_list-clause-ok
returns-in_err-make_list-clause-ok c =
    let p = err_from_is_err_and c.from_residual.result c.from_residual.ensures.1 in rw p.1 tt

pub returns-in_err-make_list-clause-err : goal.returns-in_err-make_list-clause-err
returns-in_err-make_list-clause-err c =
    let p = err_from_is_err_and c.from_residual.result c.from_residual.ensures.1 in rw p.1 c.make_list.ensures.held

pub returns-in_err-make_mut-in-Some-clause-ok : goal.returns-in_err-make_mut-in-Some-clause-ok
returns-in_err-make_mut-in-Some-clause-ok c =
    let back = c.from_residual-in_err-make_mut-in-Some in
    let p = err_from_is_err_and back.result back.ensures.1 in rw p.1 tt

pub returns-in_err-make_mut-in-Some-clause-err : goal.returns-in_err-make_mut-in-Some-clause-err
returns-in_err-make_mut-in-Some-clause-err c =
    let back = c.from_residual-in_err-make_mut-in-Some in
    let p = err_from_is_err_and back.result back.ensures.1 in
    rw p.1 (ap forest (clones_same _ _ (rw c.in_err-make_mut-in-Some.was at c.make_mut.follows.holds-at-none))
    ∙ (ap shared_trees (sym c.in-Some.is) ∙ c.make_list.ensures.held))

pub returns-clause-ok : goal.returns-clause-ok
returns-clause-ok c =
    let held = ap forest (clones_same _ _ c.in_ok-make_mut-in-Some.ensures.value)
    ∙ (ap shared_trees (sym c.in-Some.is) ∙ c.make_list.ensures.held) in
    let back = ap (λ v. forest v.items)
    (c.make_mut.follows.holds c.push_two.new.trees (ap is_ok c.in_ok-make_mut-in-Some.was)) in
    on_ok_weaker c.push_two.result
    (λ more. back ∙ (more ∙ ap (λ f. chain f (before (Punct c.args.minus) (alone (Literal c.args.literal)))) held))
    c.push_two.ensures.ok

pub returns-clause-err : goal.returns-clause-err
returns-clause-err c =
    let held = ap forest (clones_same _ _ c.in_ok-make_mut-in-Some.ensures.value)
    ∙ (ap shared_trees (sym c.in-Some.is) ∙ c.make_list.ensures.held) in
    let back = ap (λ v. forest v.items)
    (c.make_mut.follows.holds c.push_two.new.trees (ap is_ok c.in_ok-make_mut-in-Some.was)) in
    on_err_weaker c.push_two.result
    (λ same. back ∙ (same ∙ held))
    c.push_two.ensures.err
