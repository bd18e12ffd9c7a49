use Rattle.std.proofs.Common.{sym, ◌∙◌}
use Rattle.std.specs.Str.{chars}
use Rattle.lexical.proofs.NameFinderLemmas.{unbarred_found, unbarred_lacks}
use Rattle.lexical.proofs.marks.follows_quote.Goals as goal

pub returns-in-Some : goal.returns-in-Some
returns-in-Some c = c.is_unbarred.ensures
    ∙ sym (unbarred_found c.begins-raw.result (chars c.args.at.rest.now) _ _
    (sym c.begins-raw.ensures) c.in-Some.ensures.found)

pub returns-in-None : goal.returns-in-None
returns-in-None c = sym (unbarred_lacks c.begins-raw.result (chars c.args.at.rest.now)
    (sym c.begins-raw.ensures) c.in-None.ensures)
