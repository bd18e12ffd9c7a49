use Rattle.std.proofs.Common.{◌++◌, sym, ap, ◌∙◌, subst}
use Rattle.std.specs.Fmt.{decimal}
use Rattle.pm_token.specs.Integer.{suffix_text}
use Rattle.pm_token.specs.LiteralText.{IsWholeLiteral}
use Rattle.pm_token.proofs.IntegerLemmas.{unsigned_whole}
use Rattle.pm_token.proofs.WholeLemmas.{literal_text}
use Rattle.pm_token.proofs.literals.integers.unsigned_literal.Goals as goal

pub invariant_of-result : goal.invariant_of-result
invariant_of-result c =
    let is = unsigned_whole c.args.value c.args.suffix c.ranges.value.fits in
    literal_text _ c.in_ok-unsigned_text.ensures.text
    (subst IsWholeLiteral (sym c.in_ok-unsigned_text.ensures.value) is)

pub returns : goal.returns
returns c = record {
  ok = ap (λ x. record { text = x; span = c.call_site.result }) c.in_ok-unsigned_text.ensures.value
      ∙ ap (λ x. record { text = decimal c.args.value ++ suffix_text c.args.suffix; span = x })
      c.call_site.ensures.value;
}
