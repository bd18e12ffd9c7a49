use Rattle.std.proofs.Common.{◌++◌, sym, ap, ◌∙◌, subst}
use Rattle.std.specs.Fmt.{signed_decimal}
use Rattle.std.specs.Int.{w128}
use Rattle.std.proofs.lemmas.Int.{to_z-of_z}
use Rattle.pm_token.specs.Integer.{suffix_text}
use Rattle.pm_token.specs.LiteralText.{IsWholeLiteral}
use Rattle.pm_token.proofs.IntegerLemmas.{signed_whole}
use Rattle.pm_token.proofs.WholeLemmas.{literal_text}
use Rattle.pm_token.proofs.literals.integers.signed_literal.Goals as goal

pub invariant_of-result : goal.invariant_of-result
invariant_of-result c =
    let is = signed_whole c.args.value c.args.suffix c.ranges.value in
    let text = c.in_ok-signed_text.ensures.value
    ∙ ap (λ z. signed_decimal z ++ suffix_text c.args.suffix) (to_z-of_z w128 c.args.value c.ranges.value) in
    literal_text _ c.in_ok-signed_text.ensures.text (subst IsWholeLiteral (sym text) is)

pub returns : goal.returns
returns c = record {
  ok = ap (λ x. record { text = x; span = c.call_site.result }) (c.in_ok-signed_text.ensures.value
      ∙ ap (λ z. signed_decimal z ++ suffix_text c.args.suffix) (to_z-of_z w128 c.args.value c.ranges.value))
      ∙ ap (λ x. record { text = signed_decimal c.args.value ++ suffix_text c.args.suffix; span = x })
      c.call_site.ensures.value;
}
