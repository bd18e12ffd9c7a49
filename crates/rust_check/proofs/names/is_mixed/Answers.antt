use Rattle.std.proofs.Common.{◌∙◌, ap}
use Rattle.rust_check.specs.Names.{are_apart, written_with}
use Rattle.rust_check.proofs.NamesLemmas.{written_end, written_one}
use Rattle.rust_check.proofs.names.is_mixed.Goals as goal

pub loop-c-preserved : goal.loop-c-preserved
loop-c-preserved c =
    written_one _ _ _ _ _ c.in-Some.c c.loop-c.invariant c.in-Some.ensures.steps.0
    (c.with-writing.ensures ∙ ap (written_with c.loop-c.writing) c.for_char.ensures)

pub returns : goal.returns
returns c =
    c.are_apart.ensures
    ∙ ap are_apart (written_end _ _ _ c.loop-c.invariant (rw c.in-None.is at c.next.ensures.steps).0.0)
