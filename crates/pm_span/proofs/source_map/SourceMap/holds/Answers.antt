use Rattle.std.proofs.Common.{◌∷◌, get_or, eqb-true, eq-eqb, ap, subst, arith}
use Rattle.std.proofs.lemmas.Bool.{leb-true, le-leb}
use Rattle.pm_span.specs.Consecutive.{file_0, IsFileOf}
use Rattle.pm_span.proofs.ConsecutiveLemmas.{holds_at}
use Rattle.pm_span.proofs.PlaceLemmas.{found_at, place_at, places_rising}
use Rattle.pm_span.proofs.source_map.SourceMap.holds.Goals as goal

pub count_begun-number-requires : goal.count_begun-number-requires
count_begun-number-requires c =
    places_rising c.self.inside.files.items c.deref.ensures.value c.self.invariant.taken c.self.invariant.consecutive

pub returns-then-number-eq0 : goal.returns-then-number-eq0
returns-then-number-eq0 c =
    let found = found_at c.self.inside.files.items c.self.inside.limit c.bounds-lo.result.0 c.self.view_is
    c.deref.ensures.value c.self.invariant.taken c.self.invariant.consecutive c.count_begun-number.ensures in
    let here : IsFileOf c.args.self.now c.args.span.lo c.count_begun-number.result file_0 =
    subst (λ p. IsFileOf c.args.self.now p c.count_begun-number.result file_0) (ap (λ p. p.0) c.bounds-lo.ensures.value)
    (subst (IsFileOf c.args.self.now c.bounds-lo.result.0 c.count_begun-number.result)
    (ap (λ n. get_or (file_0 ∷ c.self.inside.files.items) n file_0) c.if-number-eq0.true) found.0) in
    let held = holds_at c.args.span here c.bounds-lo.ensures.ordered in
    let hi = ap (λ p. p.1) c.bounds-lo.ensures.value in
    (λ is. held.0 (omega (arith, eqb-true _ _ is)), λ h. eq-eqb _ _ (omega (arith, held.1 h)))

pub returns-else-number-eq0 : goal.returns-else-number-eq0
returns-else-number-eq0 c =
    let number = c.count_begun-number.result in
    let file = get_or (file_0 ∷ c.self.inside.files.items) number file_0 in
    let found = found_at c.self.inside.files.items c.self.inside.limit c.bounds-lo.result.0 c.self.view_is
    c.deref.ensures.value c.self.invariant.taken c.self.invariant.consecutive c.count_begun-number.ensures in
    let here : IsFileOf c.args.self.now c.args.span.lo number file =
    subst (λ p. IsFileOf c.args.self.now p number file) (ap (λ p. p.0) c.bounds-lo.ensures.value) found.0 in
    let held = holds_at c.args.span here c.bounds-lo.ensures.ordered in
    let place = place_at c.self.inside.files.items number c.self.invariant.taken c.if-number-eq0.false found.1
    c.index.ensures in
    let end = ap (λ p. p.hi) place in
    let hi = ap (λ p. p.1) c.bounds-lo.ensures.value in (
      λ is. held.0 (omega (arith, leb-true _ _ is, end, hi)),
      λ h. le-leb _ _ (omega (arith, held.1 h, end, hi)),
    )
