use Rattle.std.proofs.Common.{rules, ◌<◌, arith, ap, sym, subst, ◌∙◌}
use denote.Param.Weighed.{most}
use Rattle.pm_stream.specs.Forest.{IsBuilt}
use Rattle.pm_stream.specs.Trees.{shared_trees}
use Rattle.pm_stream.specs.Size.{count}
use Rattle.pm_stream.specs.declared.stream.TokenStream.TheDeep.{size-TokenTree}
use Rattle.pm_stream.proofs.TakenLemmas.{IsBuilt-taken, count-left, count-taken}
use Rattle.pm_stream.proofs.TreeLemmas.{count-not_nil, most_size_le}
use Rattle.pm_stream.proofs.+tree.Goals as goal
use Rattle.pm_stream.proofs.+tree.Goals.{stream::TokenStream::drop-in-Ok, stream::TokenStream::drop-in-Err}

pub stream::TokenStream::drop-drop-shared-requires : goal.stream::TokenStream::drop-drop-shared-requires
stream::TokenStream::drop-drop-shared-requires t c κs =
    let below : most size-TokenTree c.take_group.new.shared.value.items < t =
    omega (
      arith,
      most_size_le c.take_group.new.shared.value.items,
      count-left _ _ c.in_default-take_group.ensures,
      ap count (ap shared_trees (sym c.in-Some.is) ∙ c.self.view_is),
      c.decreases,
    ) in
    search (rules, below)

pub stream::TokenStream::drop-invariant_of-here : goal.stream::TokenStream::drop-invariant_of-here
stream::TokenStream::drop-invariant_of-here t c =
    IsBuilt-taken _ _ c.take_group.result c.take_group.ensures
    (subst IsBuilt (ap shared_trees c.in-Some.is) c.self.invariant)

pub stream::TokenStream::drop-loop-init : goal.stream::TokenStream::drop-loop-init
stream::TokenStream::drop-loop-init t c =
    let same = ap count (ap shared_trees (sym c.in-Some.is) ∙ c.self.view_is) in
    let taken = count-taken _ _ c.in-Some-take_group.last c.in-Some-take_group.ensures in
    record {
      here = omega (arith, same, taken);
      outer = omega (arith, same, taken);
      both =
          omega (arith, same, taken);
    }

pub stream::TokenStream::drop-drop-inside-requires : goal.stream::TokenStream::drop-drop-inside-requires
stream::TokenStream::drop-drop-inside-requires t c =
    let taken = count-taken _ _ c.in-Some-take_group-2.group c.in-Some-take_group-2.ensures in
    (omega (arith, taken, c.loop.invariant.here, c.decreases), tt)

pub stream::TokenStream::drop-drop-inside-requires-in-Err-1 :
    goal.stream::TokenStream::drop-drop-inside-requires-in-Err-1
stream::TokenStream::drop-drop-inside-requires-in-Err-1 t c =
    let taken = count-taken _ _ c.in-Some-take_group-2.group c.in-Some-take_group-2.ensures in
    (omega (arith, taken, c.loop.invariant.here, c.decreases), tt)

-- the walk ends
pub stream::TokenStream::drop-drop-outer-requires : goal.stream::TokenStream::drop-drop-outer-requires
stream::TokenStream::drop-drop-outer-requires t c =
    let left = count-left _ _ c.in_default-take_group-3.ensures in
    (omega (arith, left, c.loop.invariant.outer, c.decreases), tt)

pub stream::TokenStream::drop-drop-here-requires : goal.stream::TokenStream::drop-drop-here-requires
stream::TokenStream::drop-drop-here-requires t c =
    let left = count-left _ _ c.in_default-take_group-2.ensures in
    (omega (arith, left, c.loop.invariant.here, c.decreases), tt)

-- the walk goes back
pub stream::TokenStream::drop-drop-here-requires-in_default-take_group-2 :
    goal.stream::TokenStream::drop-drop-here-requires-in_default-take_group-2
stream::TokenStream::drop-drop-here-requires-in_default-take_group-2 t c =
    let left = count-left _ _ c.in_default-take_group-2.ensures in
    (omega (arith, left, c.loop.invariant.here, c.decreases), tt)

-- the walk goes back to the group's list
pub stream::TokenStream::drop-loop-preserved-in_default-take_group-2 :
    goal.stream::TokenStream::drop-loop-preserved-in_default-take_group-2
stream::TokenStream::drop-loop-preserved-in_default-take_group-2 t c =
    let was = c.loop.invariant in
    let taken = count-taken _ _ c.in-Some-take_group-3.way c.in-Some-take_group-3.ensures in
    record {
      here = omega (arith, was.outer, taken);
      outer = omega (arith, was.outer, taken);
      both = omega (arith, was.outer, taken);
    }

-- there is nothing inside the group
pub stream::TokenStream::drop-loop-preserved-then-is_empty : goal.stream::TokenStream::drop-loop-preserved-then-is_empty
stream::TokenStream::drop-loop-preserved-then-is_empty t c =
    let was = c.loop.invariant in
    let taken = count-taken _ _ c.in-Some-take_group-2.group c.in-Some-take_group-2.ensures in
    record {
      here = omega (arith, was.here, taken);
      outer = omega (arith, was.outer);
      both = omega (arith, was.both, taken);
    }

-- the walk goes into the tree, or its trees have another owner
pub stream::TokenStream::drop-loop-preserved : goal.stream::TokenStream::drop-loop-preserved
stream::TokenStream::drop-loop-preserved t c =
    let was = c.loop.invariant in
    let taken = count-taken _ _ c.in-Some-take_group-2.group c.in-Some-take_group-2.ensures in
    elim c.match-push_outer.branch [
      | stream::TokenStream::drop-in-Ok w ↦
          let some : 0 < count c.in-Some-take_group-2.group.stream =
          count-not_nil _ (search (rules, c.is_empty.ensures, c.if-is_empty.false)) in
          let here = ap count w.here-is in
          let outer = ap count w.outer-is in
          let put = w.in-Ok.ensures.ok in
          record {
            here = omega (arith, was.here, taken, here);
            outer = omega (arith, was.both, taken, some, outer, put);
            both = omega (arith, was.both, taken, here, outer, put);
          }
      | stream::TokenStream::drop-in-Err w ↦
          let here = ap count (w.here-is ∙ w.in-Err.ensures.err.1) in
          let outer = ap count (w.outer-is ∙ w.in-Err.ensures.err.0) in
          record {
            here = omega (arith, was.here, taken, here);
            outer = omega (arith, was.outer, outer);
            both = omega (arith, was.both, taken, here, outer);
          }
    ]
