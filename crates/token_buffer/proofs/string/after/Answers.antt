use Rattle.std.proofs.Common.{rules, ◌≡◌, ◌∷◌, sym, ap₂, ◌∙◌}
use Rattle.std.specs.Str.{chars}
use Rattle.std.proofs.lemmas.Str.{chars_past_char}
use Rattle.token_buffer.proofs.string.after.Goals as goal

pub returns-in-Some-clause-after : goal.returns-in-Some-clause-after
returns-in-Some-clause-after c =
    let past : chars c.args.text.now ≡ c.in-Some.first ∷ chars c.next.new.self.rest.now =
    chars_past_char c.args.text.now c.next.new.self.rest.now c.in-Some.first c.utf8.text
    (sym c.chars-rest.ensures.rest ∙ c.in-Some.ensures.steps.0) in
    let same : c.in-Some.first ≡ c.args.c = search rules in
    past ∙ ap₂ (λ x y. x ∷ chars y) same (sym c.as_str.ensures)
