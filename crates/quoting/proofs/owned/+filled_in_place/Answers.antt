use Rattle.std.proofs.Common.{◌-◌, ◌∙◌, List, sym, ap, subst, refl, drop, length, [], Ok, arith, rules}
use Rattle.proc_macro2.specs.declared.TokenTree.{TokenTree}
use Rattle.proc_macro2.specs.Forest.{IsBuilt, nil}
use Rattle.proc_macro2.specs.Trees.{forest}
use Rattle.quoting.specs.Filled.{then_outcome, filled_by}
use Rattle.quoting.specs.Given.{gives, rest_of, interpolation_in}
use Rattle.quoting.proofs.FillLemmas.{ends_fill, found_onto}
use Rattle.quoting.proofs.FixedLemmas.{inside_stays}
use Rattle.quoting.proofs.InPlaceLemmas.{IsAt, all_done, all_left, begin_in_place, built_drop, goes_inside, past_hole}
use Rattle.quoting.proofs.InPlaceLemmas.{past_token}
use Rattle.quoting.proofs.InPlaceLemmas.{settled_in_place}
use Rattle.quoting.proofs.owned.+filled_in_place.Goals as goal

pub fill_group-returns-then-are_fixed-clause-ok : goal.fill_group-returns-then-are_fixed-clause-ok
fill_group-returns-then-are_fixed-clause-ok t c = (
  c.args.group.now.stream,
  inside_stays (gives c.args.holes.now []) c.args.depth c.in-Some.inner c.args.group.now c.trees.result.now
      c.args.group.now.stream (search rules) (c.trees.ensures.value ∙ c.stream_ref.ensures.value)
      (sym c.are_fixed.ensures ∙ c.if-are_fixed.true) refl,
  refl,
)

pub fill_rest-loop-tree-init : goal.fill_rest-loop-tree-init
fill_rest-loop-tree-init t c =
    begin_in_place (gives c.args.holes.now []) c.args.depth c.args.out.now (forest c.args.rest.items) c.args.out.now
    c.args.rest.items (search rules) refl

pub fill_rest-settle-requires : goal.fill_rest-settle-requires
fill_rest-settle-requires t c = (
  omega (arith, c.decreases),
  (
    goes_inside (gives c.args.holes.now []) c.args.depth c.loop-tree.done c.args.out.now (forest c.args.rest.items)
        c.loop-tree.out c.loop-tree.list.items c.in-Some.after.now c.in-Some.tree.now c.index_mut.result.now
        c.loop-tree.invariant (all_left c.loop-tree.done c.deref.result.now c.loop-tree.list.items c.deref.ensures.value
        ∙ c.in-Some.ensures.cases.0)
        c.index_mut.ensures.value,
    c.requires.few,
  ),
)

pub fill_rest-loop-tree-preserved-in-None : goal.fill_rest-loop-tree-preserved-in-None
fill_rest-loop-tree-preserved-in-None t c =
    past_token (gives c.args.holes.now []) c.args.depth c.loop-tree.done c.args.out.now (forest c.args.rest.items)
    c.loop-tree.out c.put_copy.new.self c.loop-tree.list.items c.in-Some.after.now c.comes_apart-apart.result
    c.in-Some.tree.now c.index_mut.result.now c.settle.new.tree
    c.loop-tree.invariant (all_left c.loop-tree.done c.deref.result.now c.loop-tree.list.items c.deref.ensures.value
    ∙ c.in-Some.ensures.cases.0)
    c.index_mut.ensures.value c.in-None.ensures.found c.comes_apart-apart.ensures
    c.in_ok-settle-in-None.ensures.ok c.in_ok-settle-in-None.ensures.built (search rules)

pub fill_rest-loop-tree-preserved-in-Some-Names : goal.fill_rest-loop-tree-preserved-in-Some-Names
fill_rest-loop-tree-preserved-in-Some-Names t c =
    let found = c.in-Some-Names in
    let given = gives c.args.holes.now [] in
    let items = c.loop-tree.list.items in
    let whole = all_left c.loop-tree.done c.deref.result.now c.loop-tree.list.items c.deref.ensures.value
    ∙ c.in-Some.ensures.cases.0 in
    let drops = ap rest_of (sym found.field-0-is) ∙ found.ensures.rest in
    subst (λ (left : List TokenTree). IsAt given c.args.depth c.args.out.now (forest c.args.rest.items)
    c.put_name.new.out (c.len.result - length left) items) (search rules)
    (subst (λ n. IsAt given c.args.depth c.args.out.now (forest c.args.rest.items) c.put_name.new.out
    (n - length found.left.now) items) (search rules)
    (past_hole given c.args.depth c.loop-tree.done _ c.args.out.now (forest c.args.rest.items) c.loop-tree.out
    c.put_name.new.out items c.in-Some.after.now found.left.now c.in-Some.tree.now c.loop-tree.invariant whole drops
    (found_onto given c.args.depth c.args.out.now (forest c.args.rest.items) _ _ c.in-Some.tree.now
    (interpolation_in found.field-0) _ c.in-Some.after.now found.left.now
    c.loop-tree.invariant.up_to whole found.ensures.found drops
    (ap (λ f. then_outcome (Ok c.loop-tree.out) (gives c.args.holes.now [] c.args.depth (interpolation_in f)))
    found.field-0-is
    ∙ (rw found.field-0-is at c.in_ok-put_name-in-Some-Names.ensures.ok)))))

pub fill_rest-loop-tree-preserved : goal.fill_rest-loop-tree-preserved
fill_rest-loop-tree-preserved t c =
    let found = c.in-Some-Repeats in
    let given = gives c.args.holes.now [] in
    let items = c.loop-tree.list.items in
    let whole = all_left c.loop-tree.done c.deref.result.now c.loop-tree.list.items c.deref.ensures.value
    ∙ c.in-Some.ensures.cases.0 in
    let drops = ap rest_of (sym found.field-0-is) ∙ found.ensures.rest in
    subst (λ (left : List TokenTree). IsAt given c.args.depth c.args.out.now (forest c.args.rest.items)
    c.repeat_onto.new.out (c.len-in-Some-Repeats.result - length left) items) (search rules)
    (subst (λ n. IsAt given c.args.depth c.args.out.now (forest c.args.rest.items) c.repeat_onto.new.out
    (n - length found.left.now) items) (search rules)
    (past_hole given c.args.depth c.loop-tree.done _ c.args.out.now (forest c.args.rest.items) c.loop-tree.out
    c.repeat_onto.new.out items c.in-Some.after.now found.left.now c.in-Some.tree.now c.loop-tree.invariant whole drops
    (found_onto given c.args.depth c.args.out.now (forest c.args.rest.items) _ _ c.in-Some.tree.now
    (interpolation_in found.field-0) _ c.in-Some.after.now found.left.now
    c.loop-tree.invariant.up_to whole found.ensures.found drops
    (ap (λ f. then_outcome (Ok c.loop-tree.out) (gives c.args.holes.now [] c.args.depth (interpolation_in f)))
    found.field-0-is
    ∙ (rw found.field-0-is at c.in_ok-repeat_onto-in-Some-Repeats.ensures.ok)))))

pub fill_rest-returns-clause-ok : goal.fill_rest-returns-clause-ok
fill_rest-returns-clause-ok t c =
    ends_fill (gives c.args.holes.now []) c.args.depth c.args.out.now (forest c.args.rest.items) c.loop-tree.out
    (drop c.loop-tree.done c.loop-tree.list.items) c.loop-tree.invariant.up_to
    (ap length (all_left c.loop-tree.done c.deref.result.now c.loop-tree.list.items c.deref.ensures.value)
    ∙ c.in_default.ensures.cases)

pub filled_in_place-loop-tree-init : goal.filled_in_place-loop-tree-init
filled_in_place-loop-tree-init t c =
    begin_in_place (gives c.args.holes.now []) c.args.depth nil c.args.template nil c.in_ok-list.list.items
    (subst IsBuilt (sym c.in_ok-list.ensures.value) c.in_ok-list.ensures.built)
    (ap (λ f. then_outcome (Ok nil) (filled_by (gives c.args.holes.now []) c.args.depth 0 f))
    (sym c.in_ok-list.ensures.value))

pub filled_in_place-settle-requires : goal.filled_in_place-settle-requires
filled_in_place-settle-requires t c = (
  omega (arith, c.decreases),
  (
    goes_inside (gives c.args.holes.now []) c.args.depth c.loop-tree.done nil c.args.template _
        c.loop-tree.list.items c.in-Some.after.now c.in-Some.tree.now c.index_mut.result.now
        c.loop-tree.invariant (all_left c.loop-tree.done c.deref.result.now c.loop-tree.list.items c.deref.ensures.value
        ∙ c.in-Some.ensures.cases.0)
        c.index_mut.ensures.value,
    c.requires,
  ),
)

pub filled_in_place-loop-tree-preserved : goal.filled_in_place-loop-tree-preserved
filled_in_place-loop-tree-preserved t c =
    settled_in_place (gives c.args.holes.now []) c.args.depth c.loop-tree.done nil c.args.template
    c.loop-tree.list.items c.in-Some.after.now c.comes_apart-apart.result c.in-Some.tree.now c.index_mut.result.now
    c.settle.new.tree
    c.loop-tree.invariant (all_left c.loop-tree.done c.deref.result.now c.loop-tree.list.items c.deref.ensures.value
    ∙ c.in-Some.ensures.cases.0)
    c.index_mut.ensures.value c.in-None.ensures.found c.comes_apart-apart.ensures
    (search rules) (search rules)

pub filled_in_place-returns-then-done-len-clause-ok : goal.filled_in_place-returns-then-done-len-clause-ok
filled_in_place-returns-then-done-len-clause-ok t c =
    all_done (gives c.args.holes.now []) c.args.depth c.loop-tree.done c.args.template _ c.loop-tree.list.items
    c.loop-tree.invariant (search rules) (search rules)

pub filled_in_place-fill_rest-requires : goal.filled_in_place-fill_rest-requires
filled_in_place-fill_rest-requires t c = (
  omega (arith, c.decreases),
  (
    subst (λ ts. IsBuilt (forest ts)) (search rules)
        (built_drop c.loop-tree.done c.loop-tree.list.items c.loop-tree.invariant.built),
    c.requires,
  ),
)
