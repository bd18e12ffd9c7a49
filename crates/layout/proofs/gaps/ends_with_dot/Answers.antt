use Rattle.std.proofs.Common.{arith}
use Rattle.std.proofs.lemmas.Str.Pattern.{ends_char}
use Rattle.layout.proofs.GapLemmas.{ends_chars}
use Rattle.layout.proofs.gaps.ends_with_dot.Goals as goal

pub returns : goal.returns
returns c =
    ends_chars c.ends_with.result c.args.text.now _ c.utf8.text
    (ends_char 46 c.args.text.now c.ends_with.result c.ends_with.ensures.cases (omega arith))
