use Rattle.std.proofs.Common.{◌≡◌, ◌++◌, ◌∷◌, [], sym, ap, ap₂, ◌∙◌, subst, inl}
use Rattle.lexical.specs.Literal.{IsLiteralToken}
use Rattle.pm_token.specs.Escaped.{char_text, written_byte, byte_text}
use Rattle.pm_token.proofs.ByteLemmas.{byte_whole}
use Rattle.pm_token.proofs.literals.Literal.byte_character.Goals as goal
use Rattle.pm_token.proofs.literals.Literal.byte_character.Goals.{After-call_site}

text : (c : After-call_site) → c.in_ok-finish.field-0 ≡ byte_text c.args.byte
text c =
    c.in_ok-finish.ensures.ok ∙ (c.in_ok-push-3.ensures.ok
    ∙ ap (λ x. x ++ 39 ∷ []) (c.in_ok-push_byte.ensures.ok
    ∙ ap (λ x. x ++ char_text 39 written_byte c.args.byte []) (c.in_ok-push-2.ensures.ok
    ∙ ap (λ x. x ++ 39 ∷ []) (c.in_ok-push.ensures.ok ∙ ap (λ x. x ++ 98 ∷ []) c.new-builder.ensures))))

pub invariant_of-result : goal.invariant_of-result
invariant_of-result c =
    (inl (subst IsLiteralToken (sym (text c)) (byte_whole c.args.byte c.ranges.byte.fits)), c.in_ok-finish.ensures.text)

pub returns : goal.returns
returns c = record { ok = ap₂ (λ x s. record { text = x; span = s }) (text c) c.call_site.ensures.value }
