use Rattle.std.proofs.Common.{◌∷◌, [], refl, ap, sym, ◌∙◌}
use Rattle.std.specs.Str.{chars}
use Rattle.relayout.proofs.literals.split_unit.Goals as goal

pub returns-then-stands_past_ascii-clause-found : goal.returns-then-stands_past_ascii-clause-found
returns-then-stands_past_ascii-clause-found c =
    (c.in_ok-c.c ∷ [], ap chars (sym c.new.ensures.rest) ∙ c.in_ok-c.ensures.0, c.if-stands_past_ascii.ensures refl)

pub returns-clause-found : goal.returns-clause-found
returns-clause-found c = (
  92 ∷ c.in_ok-letter.letter ∷ [],
  ap chars (sym c.new.ensures.rest) ∙ (c.in_ok-c.ensures.0
      ∙ (ap (λ x. x ∷ chars c.in_ok-c.after.rest.now) c.if-c-ne92.false
      ∙ ap (λ x. 92 ∷ x) c.in_ok-letter.ensures.0)),
  c.in_ok-meaning.ensures,
)
