use Rattle.std.proofs.Common.{leb, refl, rules}
use Rattle.std.proofs.lemmas.List.Sorted.{IsPartitionPoint-from_clause}
use Rattle.pm_span.proofs.PlaceLemmas.{all_begun, some_begun}
use Rattle.pm_span.proofs.source_map.count_begun.Goals as goal

pub returns-then-last-position : goal.returns-then-last-position
returns-then-last-position c =
    all_begun c.in-Some.earlier.now c.in-Some.last.now c.in-Some.ensures.cases c.requires c.if-last-position.true refl

pub returns : goal.returns
returns c =
    some_begun c.in-Some.earlier.now c.in-Some.last.now c.args.position c.in-Some.ensures.cases c.requires
    c.if-last-position.false c.partition_point.ensures.bound
    (λ k. IsPartitionPoint-from_clause (λ place. leb place.lo c.args.position) _ _
    c.partition_point.ensures.partitioned k (λ a r f q. search rules))
