use Rattle.std.proofs.Common.{◌∷◌, get_or, sym, ap, subst}
use Rattle.pm_span.specs.Consecutive.{file_0, IsFileOf}
use Rattle.pm_span.proofs.ConsecutiveLemmas.{get_or_before}
use Rattle.pm_span.proofs.PlaceLemmas.{found_at, places_rising}
use Rattle.pm_span.proofs.source_map.SourceMap.file_of.Goals as goal

pub count_begun-number-requires : goal.count_begun-number-requires
count_begun-number-requires c =
    places_rising c.self.inside.files.items c.deref.ensures.value c.self.invariant.taken c.self.invariant.consecutive

pub returns-then-number-eq0-clause-found : goal.returns-then-number-eq0-clause-found
returns-then-number-eq0-clause-found c =
    let found = found_at c.self.inside.files.items c.self.inside.limit c.args.position c.self.view_is
    c.deref.ensures.value c.self.invariant.taken c.self.invariant.consecutive c.count_begun-number.ensures in
    subst (IsFileOf c.args.self.now c.args.position c.count_begun-number.result)
    (ap (λ n. get_or (file_0 ∷ c.self.inside.files.items) n file_0) c.if-number-eq0.true) found.0

pub returns-else-number-eq0-clause-found : goal.returns-else-number-eq0-clause-found
returns-else-number-eq0-clause-found c =
    let found = found_at c.self.inside.files.items c.self.inside.limit c.args.position c.self.view_is
    c.deref.ensures.value c.self.invariant.taken c.self.invariant.consecutive c.count_begun-number.ensures in
    subst (IsFileOf c.args.self.now c.args.position c.count_begun-number.result)
    (sym (get_or_before _ _ _ file_0 c.if-number-eq0.false found.1 c.index.ensures)) found.0
