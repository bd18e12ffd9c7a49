use Rattle.std.proofs.Common.{sym, ap₂, subst, inl}
use Rattle.lexical.specs.Literal.{IsLiteralToken}
use Rattle.pm_token.proofs.EscapedLemmas.{character_whole}
use Rattle.pm_token.proofs.literals.Literal.character.Goals as goal

pub invariant_of-result : goal.invariant_of-result
invariant_of-result c = (
  inl (subst IsLiteralToken (sym c.in_ok-between_quotes.ensures.value) (character_whole c.args.c c.ranges.c.0)),
  c.in_ok-between_quotes.ensures.text,
)

pub returns : goal.returns
returns c = record {
  ok = ap₂ (λ x s. record { text = x; span = s }) c.in_ok-between_quotes.ensures.value c.call_site.ensures.value;
}
