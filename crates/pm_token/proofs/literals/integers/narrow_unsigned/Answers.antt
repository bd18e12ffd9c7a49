use Rattle.std.proofs.Common.{◌<◌, ◌^◌, ◌++◌, ap, ◌∙◌, arith}
use Rattle.std.specs.Fmt.{decimal}
use Rattle.std.specs.Str.{chars}
use Rattle.pm_token.proofs.IntegerLemmas.{chars_unsigned}
use Rattle.pm_token.proofs.literals.integers.narrow_unsigned.Goals as goal

pub returns-in-Some : goal.returns-in-Some
returns-in-Some c =
    let fits : c.args.value < 2 ^ 128 = omega (arith, c.ranges.value.fits) in record {
      value = c.in-Some.ensures.value
          ∙ (ap chars (ap (λ name. decimal c.args.value ++ name) c.name.ensures)
          ∙ chars_unsigned c.args.value c.args.suffix fits);
      text = c.in-Some.ensures.text;
    }
