use Rattle.std.proofs.Common.{arith}
use Rattle.std.proofs.lemmas.Str.Pattern.{strip_suffix_char}
use Rattle.pm_token.proofs.ContentLemmas.{before_found}
use Rattle.pm_token.proofs.literals.values.content.before_single_quote.Goals as goal

pub returns : goal.returns
returns c =
    before_found 39 c.args.text.now c.strip_suffix.result (omega arith) c.utf8.text
    (strip_suffix_char 39 c.args.text.now c.strip_suffix.result c.strip_suffix.ensures.cases (omega arith))
