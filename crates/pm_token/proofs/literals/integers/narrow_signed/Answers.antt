use Rattle.std.proofs.Common.{◌++◌, ap, ap₂, ◌∙◌, pos}
use mir.Val.{to_z, of_z}
use Rattle.std.specs.Fmt.{decimal, signed_decimal}
use Rattle.std.specs.Int.{w64}
use Rattle.std.specs.Prelude.{int_lt}
use Rattle.std.proofs.lemmas.Int.{to_z-of_z}
use Rattle.std.specs.Str.{chars}
use Rattle.pm_token.proofs.IntegerLemmas.{chars_signed, fits_wide, sign_and_size}
use Rattle.pm_token.proofs.ShortLemmas.{sign}
use Rattle.pm_token.proofs.literals.integers.narrow_signed.Goals as goal

pub returns-in-Some : goal.returns-in-Some
returns-in-Some c =
    let given = to_z w64 (of_z w64 c.args.value) in record {
      value = c.in-Some.ensures.value
          ∙ (ap chars (ap₂ (λ front name. front ++ name)
          (ap (λ size. sign (int_lt given (pos 0)) ++ decimal size) c.unsigned_abs.ensures.value
          ∙ (sign_and_size given ∙ ap signed_decimal (to_z-of_z w64 c.args.value c.ranges.value)))
          c.name.ensures)
          ∙ chars_signed c.args.value c.args.suffix (fits_wide c.args.value c.ranges.value));
      text = c.in-Some.ensures.text;
    }
