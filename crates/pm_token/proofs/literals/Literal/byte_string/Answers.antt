use Rattle.std.proofs.Common.{◌≡◌, ◌++◌, ◌∷◌, [], sym, ap, ap₂, ◌∙◌, subst, inl}
use Rattle.lexical.specs.Literal.{IsLiteralToken}
use Rattle.pm_token.specs.Escaped.{content, written_byte, byte_string_text}
use Rattle.pm_token.proofs.ByteLemmas.{bytes_fit, byte_string_whole}
use Rattle.pm_token.proofs.literals.Literal.byte_string.Goals as goal
use Rattle.pm_token.proofs.literals.Literal.byte_string.Goals.{After-call_site}

text : (c : After-call_site) → c.in_ok-finish.field-0 ≡ byte_string_text c.args.bytes.now
text c =
    c.in_ok-finish.ensures.ok ∙ (c.in_ok-push-3.ensures.ok
    ∙ ap (λ x. x ++ 34 ∷ []) (c.in_ok-push_bytes.ensures.ok
    ∙ ap (λ x. x ++ content 34 written_byte c.args.bytes.now) (c.in_ok-push-2.ensures.ok
    ∙ ap (λ x. x ++ 34 ∷ []) (c.in_ok-push.ensures.ok ∙ ap (λ x. x ++ 98 ∷ []) c.new-builder.ensures))))

pub invariant_of-result : goal.invariant_of-result
invariant_of-result c =
    let fit = bytes_fit c.args.bytes.now (λ i. (c.type_inv.bytes i).fits) in
    (inl (subst IsLiteralToken (sym (text c)) (byte_string_whole c.args.bytes.now fit)), c.in_ok-finish.ensures.text)

pub returns : goal.returns
returns c = record { ok = ap₂ (λ x s. record { text = x; span = s }) (text c) c.call_site.ensures.value }
