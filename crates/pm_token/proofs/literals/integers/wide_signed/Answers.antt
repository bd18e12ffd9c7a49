use Rattle.std.proofs.Common.{◌++◌, ap, ap₂, ◌∙◌}
use Rattle.std.specs.Fmt.{signed_decimal}
use Rattle.std.specs.Int.{w128}
use Rattle.std.proofs.lemmas.Int.{to_z-of_z}
use Rattle.std.specs.Str.{chars}
use Rattle.pm_token.proofs.IntegerLemmas.{chars_signed}
use Rattle.pm_token.proofs.literals.integers.wide_signed.Goals as goal

pub returns : goal.returns
returns c = record {
  value = c.in_ok-text.ensures.ok
      ∙ (ap chars (ap₂ (λ xs ys. xs ++ ys)
      (c.format.ensures.text ∙ ap signed_decimal (to_z-of_z w128 c.args.value c.ranges.value))
      c.name.ensures)
      ∙ chars_signed c.args.value c.args.suffix c.ranges.value);
  text = c.in_ok-text.ensures.text;
}
