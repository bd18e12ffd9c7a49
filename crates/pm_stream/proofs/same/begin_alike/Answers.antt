use Rattle.pm_stream.proofs.SameLemmas.{literal_alike}
use Rattle.pm_stream.proofs.same.begin_alike.Goals as goal

pub returns-in-Literal-Literal : goal.returns-in-Literal-Literal
returns-in-Literal-Literal c =
    rw (c.in-Literal-Literal.is-0, c.in-Literal-Literal.is-1)
    (literal_alike _ _ _ _ _ c.text.ensures c.text-in-Literal-Literal.ensures c.text.utf8 c.text-in-Literal-Literal.utf8
    c.eq-in-Literal-Literal.ensures)
