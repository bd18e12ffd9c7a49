use Rattle.std.proofs.Common.{false, sym, ap, ◌∙◌}
use Rattle.lexical.specs.Token.{Name}
use Rattle.pm_stream.specs.Events.{One}
use Rattle.pm_stream.proofs.DocLemmas.{doc_chars}
use Rattle.token_buffer.specs.Entries.{event_of}
use Rattle.token_buffer.specs.Parts.{at_zero}
use Rattle.token_buffer.proofs.part.part_of.Goals as goal

pub returns-in-DocName : goal.returns-in-DocName
returns-in-DocName c =
    ap (λ x. One (Name false x) 0 0) doc_chars
    ∙ sym (ap (λ e. at_zero (event_of c.args.text.now e)) c.in-DocName.is)
