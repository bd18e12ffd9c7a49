use Rattle.std.proofs.Common.{length, sym, ap, ◌∙◌}
use Rattle.memchr.specs.Find.{is_byte}
use Rattle.lexical.specs.Finder.{while_front}
use Rattle.lexical.specs.RawString.{may_stand_raw}
use Rattle.lexical.proofs.SearchLemmas.{allowed_plain, found_end}
use Rattle.lexical.proofs.contents.count_allowed.Goals as goal

pub returns-in-Plain : goal.returns-in-Plain
returns-in-Plain c =
    allowed_plain c.args.stretch.now
    ∙ ap (λ k. length (while_front (may_stand_raw k) c.args.stretch.now)) (sym c.in-Plain.is)

pub returns-in-C : goal.returns-in-C
returns-in-C c =
    c.unwrap_or.ensures ∙ (sym (found_end (is_byte 0) c.args.stretch.now c.memchr.result c.memchr.ensures)
    ∙ ap (λ k. length (while_front (may_stand_raw k) c.args.stretch.now)) (sym c.in-C.is))
