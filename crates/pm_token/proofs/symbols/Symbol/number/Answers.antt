use Rattle.std.proofs.Common.{subst, sym}
use Rattle.std.specs.Str.{chars}
use Rattle.std.proofs.lemmas.Str.{scalars-chars}
use Rattle.pm_token.specs.Text.{IsText}
use Rattle.pm_token.proofs.ShortLemmas.{number_utf8}
use Rattle.pm_token.proofs.symbols.Symbol.number.Goals as goal

pub returns-clause-text : goal.returns-clause-text
returns-clause-text c =
    subst (λ bytes. IsText (chars bytes)) (sym c.in_ok-number.ensures)
    (scalars-chars _ (number_utf8 c.args.negative c.args.value _ c.ranges.value.fits c.utf8.suffix))
