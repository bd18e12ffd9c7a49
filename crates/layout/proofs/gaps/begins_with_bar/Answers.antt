use Rattle.std.proofs.Common.{sym, ◌∙◌}
use Rattle.lexical.specs.Number.{bars_dot}
use Rattle.layout.proofs.GapLemmas.{front_none, front_passes}
use Rattle.layout.proofs.gaps.begins_with_bar.Goals as goal

pub returns-in-Some : goal.returns-in-Some
returns-in-Some c =
    c.bars_dot.ensures ∙ front_passes bars_dot c.in-Some.first _ (sym c.in-Some.is ∙ c.first_of.ensures)

pub returns-in-None : goal.returns-in-None
returns-in-None c = front_none bars_dot _ (sym c.in-None.is ∙ c.first_of.ensures)
