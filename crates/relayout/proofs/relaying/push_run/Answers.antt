use Rattle.std.proofs.Common.{◌∙◌, ◌∷◌, ap, sym}
use Rattle.std.specs.Str.{chars}
use Rattle.std.proofs.lemmas.List.{nil_from_length}
use Rattle.relayout.specs.Written.{choices_left, next_choice}
use Rattle.relayout.proofs.RelaidLemmas.{no_chars, some_chars}
use Rattle.relayout.proofs.StayLemmas.{places_changed, places_kept, places_none}
use Rattle.relayout.proofs.relaying.push_run.Goals as goal

pub returns-then-is_empty-clause-placed : goal.returns-then-is_empty-clause-placed
returns-then-is_empty-clause-placed c =
    places_none _ _ _ _ _ _ (chars c.args.run.now) c.requires.run
    (no_chars c.args.run.now (sym c.is_empty.ensures ∙ c.if-is_empty.true))

pub returns-in-None-clause-placed : goal.returns-in-None-clause-placed
returns-in-None-clause-placed c =
    let none = nil_from_length c.args.choices.now c.in-None.ensures.cases in
    places_kept _ _ _ _ _ _ _ (chars c.args.run.now) c.requires.run
    (some_chars c.args.run.now c.utf8.run (sym c.is_empty.ensures ∙ c.if-is_empty.false))
    (ap next_choice none) (λ d more. none ∙ sym (ap (λ l. choices_left l (d ∷ more)) none))

pub returns-in-Some-Kept-default-clause-placed : goal.returns-in-Some-Kept-default-clause-placed
returns-in-Some-Kept-default-clause-placed c =
    let some = c.in-Some-Kept-default.ensures.cases.0 in
    places_kept _ _ _ _ _ _ _ (chars c.args.run.now) c.requires.run
    (some_chars c.args.run.now c.utf8.run (sym c.is_empty.ensures ∙ c.if-is_empty.false))
    (ap next_choice some ∙ c.in-Some-Kept-default.field-0-0-is)
    (λ d more. sym (ap (λ l. choices_left l (d ∷ more)) some))

pub returns-in_ok-push_white-in-Some-clause-placed : goal.returns-in_ok-push_white-in-Some-clause-placed
returns-in_ok-push_white-in-Some-clause-placed c =
    places_changed _ _ c.in-Some.choice.now _ _ _ _ _ c.push_text.new.self _ (chars c.before-in-Some.result.now)
    (chars c.args.run.now) c.before-in-Some.ensures
    (some_chars c.args.run.now c.utf8.run (sym c.is_empty.ensures ∙ c.if-is_empty.false))
    c.in-Some.ensures.cases.0 c.in_ok-push_text-in-Some.ensures.ok c.in_ok-push_white-in-Some.ensures
