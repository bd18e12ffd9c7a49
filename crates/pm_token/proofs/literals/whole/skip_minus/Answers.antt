use Rattle.std.proofs.Common.{arith}
use Rattle.std.proofs.lemmas.Str.Pattern.{strip_prefix_char}
use Rattle.pm_token.proofs.WholeLemmas.{minus_stripped}
use Rattle.pm_token.proofs.literals.whole.skip_minus.Goals as goal

pub returns-clause-split : goal.returns-clause-split
returns-clause-split c =
    minus_stripped c.args.text.now c.strip_prefix.result c.utf8.text
    (strip_prefix_char 45 c.args.text.now c.strip_prefix.result c.strip_prefix.ensures.cases (omega arith))
