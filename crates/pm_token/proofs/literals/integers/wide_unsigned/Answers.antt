use Rattle.std.proofs.Common.{◌++◌, ap, ap₂, ◌∙◌}
use Rattle.std.specs.Str.{chars}
use Rattle.pm_token.proofs.IntegerLemmas.{chars_unsigned}
use Rattle.pm_token.proofs.literals.integers.wide_unsigned.Goals as goal

pub returns : goal.returns
returns c = record {
  value = c.in_ok-text.ensures.ok
      ∙ (ap chars (ap₂ (λ xs ys. xs ++ ys) c.format.ensures.text c.name.ensures)
      ∙ chars_unsigned c.args.value c.args.suffix c.ranges.value.fits);
  text = c.in_ok-text.ensures.text;
}
