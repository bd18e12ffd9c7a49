use Rattle.std.proofs.Common.{◌++◌, ◌∷◌, [], ap, ap₂, ◌∙◌}
use Rattle.std.proofs.lemmas.Str.{chars-nil}
use Rattle.pm_token.specs.Escaped.{char_text, written_char}
use Rattle.pm_token.proofs.literals.quoted.between_quotes.Goals as goal

pub returns-clause-value : goal.returns-clause-value
returns-clause-value c =
    c.in_ok-text.ensures.ok ∙ (c.in_ok-push-2.ensures.ok
    ∙ ap (λ x. x ++ 39 ∷ []) (c.in_ok-push_escaped.ensures.ok
    ∙ ap₂ (λ x rest. x ++ char_text 39 written_char c.args.c rest)
    (c.in_ok-push.ensures.ok ∙ ap (λ x. x ++ 39 ∷ []) c.new-builder.ensures) chars-nil))
