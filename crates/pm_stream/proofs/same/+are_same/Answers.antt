use Rattle.std.proofs.Common.{arith, refl}
use Rattle.std.proofs.lemmas.Bool.{false≢true}
use Rattle.pm_stream.proofs.SameLemmas.{after_less, after_same, apart, apart_inside, both_empty, inside_less}
use Rattle.pm_stream.proofs.SameLemmas.{inside_same, passed_less, passed_same, pushed_not, pushed_ok}
use Rattle.pm_stream.proofs.SameLemmas.{uneven, uneven_other}
use Rattle.pm_stream.proofs.same.+are_same.Goals as goal

pub returns-then-not-is_empty : goal.returns-then-not-is_empty
returns-then-not-is_empty t c = (
  λ h. absurd cc,
  λ e. absurd
      (uneven _ _ _ _ c.in_default.ensures.cases c.is_empty.ensures c.if-not-is_empty.true
      (c.loop-tree.invariant.same.1 e)),
)

pub loop-tree-smaller-in_default : goal.loop-tree-smaller-in_default
loop-tree-smaller-in_default t c = after_less _ _ _ _ c.in-Some-pop.ensures.items

pub loop-tree-preserved-in_default : goal.loop-tree-preserved-in_default
loop-tree-preserved-in_default t c =
    let was = c.loop-tree.invariant in
    let now = after_same _ _ _ _ _ _ c.in_default.ensures.cases c.is_empty.ensures c.if-not-is_empty.false
    c.in-Some-pop.ensures.items in
    record {
      same = (λ h. was.same.0 (now.1 h), λ e. now.0 (was.same.1 e));
      within = omega (arith, was.within, after_less c.loop-tree.left.trees.now _ _ _ c.in-Some-pop.ensures.items);
    }

pub loop-tree-smaller-then-is_ok : goal.loop-tree-smaller-then-is_ok
loop-tree-smaller-then-is_ok t c =
    let more = pushed_ok _ _ _ _ _ c.is_ok.ensures.value c.if-is_ok.true c.push.ensures.items in
    inside_less _ _ _ _ _ _ c.in-Some.ensures.cases.0 c.inside.ensures more

pub loop-tree-preserved-then-is_ok : goal.loop-tree-preserved-then-is_ok
loop-tree-preserved-then-is_ok t c =
    let was = c.loop-tree.invariant in
    let more = pushed_ok _ _ _ _ _ c.is_ok.ensures.value c.if-is_ok.true c.push.ensures.items in
    let now =
    inside_same _ _ _ _ _ _ _ _ _ _ c.in-Some.ensures.cases.0 c.in-Some-split_first.ensures.cases.0
    c.begin_alike.ensures
    c.if-not-begin_alike.false c.inside.ensures c.inside-in-loop-tree.ensures more in
    record {
      same = (λ h. was.same.0 (now.1 h), λ e. now.0 (was.same.1 e));
      within = omega (arith, was.within, inside_less _ _ _ _ _ _ c.in-Some.ensures.cases.0 c.inside.ensures more);
    }

pub returns-in_default-split_first : goal.returns-in_default-split_first
returns-in_default-split_first t c = (
  λ h. absurd (false≢true h),
  λ e. absurd (uneven_other c.loop-tree.left.trees.now c.loop-tree.left.others.now c.in-Some.tree.now
      c.in-Some.trees.now
      c.loop-tree.outer.items c.in-Some.ensures.cases.0 c.in_default-split_first.ensures.cases
      (c.loop-tree.invariant.same.1 e)),
)

pub returns-then-not-begin_alike : goal.returns-then-not-begin_alike
returns-then-not-begin_alike t c = (
  λ h. absurd (false≢true h),
  λ e. absurd (apart c.loop-tree.left.trees.now c.loop-tree.left.others.now c.in-Some.trees.now
      c.in-Some-split_first.others.now
      c.in-Some.tree.now c.in-Some-split_first.other.now c.in-Some.ensures.cases.0 c.in-Some-split_first.ensures.cases.0
      c.begin_alike.result c.loop-tree.outer.items
      c.begin_alike.ensures c.if-not-begin_alike.true (c.loop-tree.invariant.same.1 e)),
)

pub returns-then-not-are_same : goal.returns-then-not-are_same
returns-then-not-are_same t c = (
  λ h. absurd (false≢true h),
  λ e. absurd (apart_inside c.loop-tree.left.trees.now c.loop-tree.left.others.now c.in-Some.trees.now
      c.in-Some-split_first.others.now
      c.in-Some.tree.now c.in-Some-split_first.other.now c.in-Some.ensures.cases.0 c.in-Some-split_first.ensures.cases.0
      c.inside.result.now c.inside-in-loop-tree.result.now c.inside.ensures c.inside-in-loop-tree.ensures
      c.are_same.result c.loop-tree.outer.items c.are_same.ensures c.if-not-are_same.true
      (c.loop-tree.invariant.same.1 e)),
)

pub loop-tree-preserved-then-is_empty-2 : goal.loop-tree-preserved-then-is_empty-2
loop-tree-preserved-then-is_empty-2 t c =
    let was = c.loop-tree.invariant in
    let kept = refl {a = c.loop-tree.outer.items} in
    let now =
    passed_same c.loop-tree.left.trees.now c.loop-tree.left.others.now c.in-Some.trees.now
    c.in-Some-split_first.others.now
    c.in-Some.tree.now c.in-Some-split_first.other.now c.in-Some.ensures.cases.0 c.in-Some-split_first.ensures.cases.0
    c.inside.result.now c.inside-in-loop-tree.result.now c.inside.ensures c.inside-in-loop-tree.ensures
    c.begin_alike.result c.loop-tree.outer.items c.loop-tree.outer.items c.begin_alike.ensures
    c.if-not-begin_alike.false
    (both_empty c.inside.result.now c.inside-in-loop-tree.result.now c.is_empty-in-loop-tree.result
    c.is_empty-then-is_empty.result c.is_empty-in-loop-tree.ensures c.if-is_empty.true c.is_empty-then-is_empty.ensures
    c.if-is_empty-2.true) kept in
    record {
      same = (λ h. was.same.0 (now.1 h), λ e. now.0 (was.same.1 e));
      within = omega (
        arith,
        was.within,
        passed_less c.loop-tree.left.trees.now c.in-Some.trees.now c.in-Some.tree.now c.loop-tree.outer.items
            c.loop-tree.outer.items c.in-Some.ensures.cases.0 kept,
      );
    }

pub loop-tree-smaller-then-is_empty-2 : goal.loop-tree-smaller-then-is_empty-2
loop-tree-smaller-then-is_empty-2 t c =
    passed_less c.loop-tree.left.trees.now c.in-Some.trees.now c.in-Some.tree.now c.loop-tree.outer.items
    c.loop-tree.outer.items c.in-Some.ensures.cases.0 refl

pub loop-tree-preserved : goal.loop-tree-preserved
loop-tree-preserved t c =
    let was = c.loop-tree.invariant in
    let kept = pushed_not _ _ _ _ _ c.is_ok.ensures.value c.if-is_ok.false c.push.ensures.items in
    let now =
    passed_same c.loop-tree.left.trees.now c.loop-tree.left.others.now c.in-Some.trees.now
    c.in-Some-split_first.others.now
    c.in-Some.tree.now c.in-Some-split_first.other.now c.in-Some.ensures.cases.0 c.in-Some-split_first.ensures.cases.0
    c.inside.result.now c.inside-in-loop-tree.result.now c.inside.ensures c.inside-in-loop-tree.ensures
    c.begin_alike.result c.loop-tree.outer.items c.push.new.self.items c.begin_alike.ensures c.if-not-begin_alike.false
    (c.are_same.ensures.0 c.if-not-are_same.false) kept in
    record {
      same = (λ h. was.same.0 (now.1 h), λ e. now.0 (was.same.1 e));
      within = omega (
        arith,
        was.within,
        passed_less c.loop-tree.left.trees.now c.in-Some.trees.now c.in-Some.tree.now c.loop-tree.outer.items
            c.push.new.self.items c.in-Some.ensures.cases.0 kept,
      );
    }

pub loop-tree-smaller : goal.loop-tree-smaller
loop-tree-smaller t c =
    passed_less c.loop-tree.left.trees.now c.in-Some.trees.now c.in-Some.tree.now c.loop-tree.outer.items
    c.push.new.self.items c.in-Some.ensures.cases.0
    (pushed_not _ _ _ _ _ c.is_ok.ensures.value c.if-is_ok.false c.push.ensures.items)
