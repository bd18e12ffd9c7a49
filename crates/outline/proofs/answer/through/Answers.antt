use Rattle.std.proofs.Common.{subst, sym}
use Rattle.std.specs.Str.{chars}
use Rattle.pm_span.specs.Files.{Holds}
use Rattle.pm_span.specs.Lookup.{AreInOneFile, HasText}
use Rattle.outline.proofs.PlaceLemmas.{through_apart, through_nowhere, through_some, through_unheld}
use Rattle.outline.proofs.answer.through.Goals as goal

pub returns-then-not-holds : goal.returns-then-not-holds
returns-then-not-holds c = λ text is.
    through_unheld text c.args.from c.args.to (λ held.
    let clash = c.if-not-holds.ensures.1 (subst (λ m. Holds m c.args.from) (sym is) held) in cc)

pub returns-in-None : goal.returns-in-None
returns-in-None c = λ text is.
    through_apart text c.args.from c.args.to (λ one.
    c.in-None.ensures.found (subst (λ m. AreInOneFile m c.args.from c.args.to) (sym is) one))

pub returns-in-None-source_str : goal.returns-in-None-source_str
returns-in-None-source_str c = λ text is.
    through_nowhere text c.args.from c.args.to c.in-Some.span
    (subst (λ m. AreInOneFile m c.args.from c.args.to) is c.in-Some.ensures.found.0) c.in-Some.ensures.found.1
    c.in-None-source_str.ensures.found

pub returns-in-Some-source_str : goal.returns-in-Some-source_str
returns-in-Some-source_str c = λ text is.
    through_some text c.in-Some-source_str.text.now c.args.from c.args.to c.in-Some.span
    (subst (λ m. AreInOneFile m c.args.from c.args.to) is c.in-Some.ensures.found.0) c.in-Some.ensures.found.1
    c.in-Some-source_str.ensures.found
    (subst (λ m. HasText m c.in-Some.span (chars c.in-Some-source_str.text.now)) is c.in-Some-source_str.ensures.value)
