use Rattle.std.proofs.Common.{◌≡◌, ℕ, ap₂, min, max, ◌∙◌, subst, sym}
use Rattle.std.proofs.lemmas.Bool.{false≢true}
use Rattle.pm_span.specs.Extent.{Extent}
use Rattle.pm_span.specs.Files.{Holds}
use Rattle.pm_span.specs.Lookup.{covering_span}
use Rattle.pm_span.proofs.FileLemmas.{held_joined, joined_held}
use Rattle.pm_span.proofs.spans.Span.join.Goals as goal

abbrev extent_of : ℕ → ℕ → Extent
extent_of lo hi = record { lo = lo; hi = hi }

-- the span that covers both spans
span_of_both :
    (first second span : Extent) (lo hi : ℕ) (p q : ℕ × ℕ) → p ≡ (first.lo, first.hi) → q ≡ (second.lo, second.hi)
    → lo ≡ min p.0 q.0 → hi ≡ max p.1 q.1 → span ≡ extent_of lo hi → span ≡ covering_span first second
span_of_both first second span lo hi p q at other least most is =
    is ∙ ap₂ extent_of (least ∙ ap₂ (λ x y. min x.0 y.0) at other) (most ∙ ap₂ (λ x y. max x.1 y.1) at other)

pub returns-then-holds-clause-found : goal.returns-then-holds-clause-found
returns-then-holds-clause-found c =
    let same = span_of_both c.args.self c.args.other c.new-joined.result c.min.result c.max.result c.bounds-lo.result
    c.bounds-other_lo.result c.bounds-lo.ensures.value c.bounds-other_lo.ensures.value c.min.ensures c.max.ensures
    c.new-joined.ensures in
    (held_joined c.args.self c.args.other (subst (Holds c.args.map.now) same (c.holds.ensures.0 c.if-holds.true)), same)

pub returns-else-holds-clause-found : goal.returns-else-holds-clause-found
returns-else-holds-clause-found c = λ both.
    let same = span_of_both c.args.self c.args.other c.new-joined.result c.min.result c.max.result c.bounds-lo.result
    c.bounds-other_lo.result c.bounds-lo.ensures.value c.bounds-other_lo.ensures.value c.min.ensures c.max.ensures
    c.new-joined.ensures in
    let held = c.holds.ensures.1
    (subst (Holds c.args.map.now) (sym same) (joined_held c.args.self c.args.other both)) in
    false≢true (sym c.if-holds.false ∙ held)
