use Rattle.std.proofs.Common.{ap, sym, subst}
use Rattle.std.specs.Str.{chars}
use Rattle.pm_token.specs.Text.{IsText}
use Rattle.pm_token.proofs.TextLemmas.{text_string}
use Rattle.pm_token.proofs.symbols.Symbol.from_string.Goals as goal

pub returns-clause-text : goal.returns-clause-text
returns-clause-text c = subst IsText (ap chars (sym c.in_ok-from_string.ensures.ok)) (text_string c.args.text)
