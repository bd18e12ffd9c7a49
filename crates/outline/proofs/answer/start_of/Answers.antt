use Rattle.std.proofs.Common.{refl, subst, sym}
use Rattle.pm_span.specs.Files.{Holds}
use Rattle.pm_span.specs.Lookup.{StartsAt}
use Rattle.outline.proofs.PlaceLemmas.{elsewhere, starts_in}
use Rattle.outline.proofs.answer.start_of.Goals as goal

pub returns-then-holds : goal.returns-then-holds
returns-then-holds c = λ text is.
    starts_in text c.args.span c.start.result (subst (λ m. Holds m c.args.span) is (c.if-holds.ensures.0 refl))
    (subst (λ m. StartsAt m c.args.span c.start.result) is c.start.ensures)

pub returns-else-holds : goal.returns-else-holds
returns-else-holds c = λ text is.
    elsewhere text c.args.span (λ held.
    let clash = c.if-holds.ensures.1 (subst (λ m. Holds m c.args.span) (sym is) held) in cc)
