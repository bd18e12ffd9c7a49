use Rattle.std.proofs.Common.{◌++◌, ◌∷◌, [], inl, ap, ◌∙◌}
use Rattle.pm_token.specs.CString.{IsCStringText, parts_text}
use Rattle.pm_token.proofs.ByteLemmas.{bytes_fit}
use Rattle.pm_token.proofs.CStringLemmas.{c_string_whole}
use Rattle.pm_token.proofs.literals.Literal.c_string.Goals as goal
use Rattle.pm_token.proofs.literals.Literal.c_string.Goals.{After-call_site}

text : (c : After-call_site) → IsCStringText c.args.bytes.now c.in_ok-finish.field-0
text c =
    let all = c.in_ok-push_c_string.ensures.ok in
    record {
      parts = all.0;
      reads = all.1;
      whole = c.in_ok-finish.ensures.ok ∙ (c.in_ok-push-3.ensures.ok
          ∙ ap (λ x. x ++ 34 ∷ []) (all.2
          ∙ ap (λ x. x ++ parts_text all.0) (c.in_ok-push-2.ensures.ok
          ∙ ap (λ x. x ++ 34 ∷ []) (c.in_ok-push.ensures.ok ∙ ap (λ x. x ++ 99 ∷ []) c.new-builder.ensures))));
    }

pub invariant_of-result : goal.invariant_of-result
invariant_of-result c = (
  inl (c_string_whole c.args.bytes.now c.in_ok-finish.field-0 (text c)
      (bytes_fit c.args.bytes.now (λ i. (c.type_inv.bytes i).fits)) c.requires),
  c.in_ok-finish.ensures.text,
)

pub returns : goal.returns
returns c = record { ok = (text c, c.call_site.ensures.value) }
