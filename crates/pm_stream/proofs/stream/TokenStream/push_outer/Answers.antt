use Rattle.std.proofs.Common.{◌≤◌, arith, ap, sym, subst, ◌∙◌}
use Rattle.pm_stream.specs.Forest.{IsBuilt}
use Rattle.pm_stream.specs.Size.{count}
use Rattle.pm_stream.specs.Trees.{shared_trees}
use Rattle.pm_stream.proofs.TreeLemmas.{IsBuilt-joined, count-put}
use Rattle.pm_stream.proofs.stream.TokenStream.push_outer.Goals as goal

pub invariant_of-self-2 : goal.invariant_of-self-2
invariant_of-self-2 c =
    let ordered : c.call_site.result.lo ≤ c.call_site.result.hi = rw c.call_site.ensures.value (omega arith) in
    let before = subst IsBuilt (ap shared_trees c.in-Some.is) c.self.invariant in
    subst IsBuilt (sym c.in_default-put_last.ensures.ok)
    (IsBuilt-joined _ _ before (ordered, c.prove_built.ensures, tt))

pub returns-clause-ok : goal.returns-clause-ok
returns-clause-ok c =
    let same = ap count (ap shared_trees (sym c.in-Some.is) ∙ c.self.view_is) in
    omega (
      arith,
      same,
      count-put _ _ record { delimiter = _; stream = c.args.outer; span = c.call_site.result }
          c.in_default-put_last.ensures.ok,
    )
