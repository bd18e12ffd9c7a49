use Rattle.std.proofs.Common.{sym, ◌∙◌}
use Rattle.lexical.specs.Mark.{is_mark}
use Rattle.layout.proofs.GapLemmas.{front_passes}
use Rattle.layout.proofs.gaps.goes_on.Goals as goal

pub returns-in-Punct : goal.returns-in-Punct
returns-in-Punct c =
    rw (c.in-Token.is, c.in-Punct.is)
    (c.is_mark.ensures ∙ front_passes is_mark c.in-Some.first _ (sym c.in-Some.is ∙ c.first_of.ensures))
