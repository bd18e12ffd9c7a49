use Rattle.std.proofs.Common.{sym, ap, ◌∙◌}
use Rattle.lexical.specs.Mark.{quotable_fronts}
use Rattle.lexical.specs.Text.{begins_any}
use Rattle.pm_stream.specs.WellSpaced.{follows_quote}
use Rattle.pm_stream.proofs.SpacedLemmas.{first_is}
use Rattle.pm_stream.proofs.well_spaced.follows_quote.Goals as goal

pub returns-in-Some-Ident : goal.returns-in-Some-Ident
returns-in-Some-Ident c =
    let next = first_is _ _ _ _ c.first.ensures.value c.in-Some-Ident.is c.in-Some-Ident.field-0-is in
    sym (ap follows_quote next)

pub returns-in-Some-Literal : goal.returns-in-Some-Literal
returns-in-Some-Literal c =
    let next = first_is _ _ _ _ c.first.ensures.value c.in-Some-Literal.is c.in-Some-Literal.field-0-is in
    c.is_quotable.ensures ∙ (ap (begins_any quotable_fronts) c.text.ensures ∙ sym (ap follows_quote next))
