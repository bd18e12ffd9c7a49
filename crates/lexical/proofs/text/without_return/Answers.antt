use Rattle.std.proofs.Common.{arith, Some, None}
use Rattle.std.proofs.lemmas.Str.Pattern.{strip_suffix_char}
use Rattle.lexical.proofs.StripLemmas.{return_stripped, no_return}
use Rattle.lexical.proofs.text.without_return.Goals as goal

pub returns-in-Some : goal.returns-in-Some
returns-in-Some c =
    return_stripped c.args.text.now c.in-Some.front.now c.utf8.text
    (strip_suffix_char 13 c.args.text.now (Some c.in-Some.front) c.in-Some.ensures.cases (omega arith))

pub returns-in-None : goal.returns-in-None
returns-in-None c = no_return c.args.text.now c.utf8.text
    (strip_suffix_char 13 c.args.text.now None c.in-None.ensures.cases (omega arith))
