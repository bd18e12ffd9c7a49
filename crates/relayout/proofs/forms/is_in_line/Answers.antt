use Rattle.std.proofs.Common.{sym, ap, ◌∙◌}
use Rattle.std.specs.Str.{chars}
use Rattle.std.proofs.lemmas.Str.{IsUtf8-had}
use Rattle.lexical.specs.Rule.{Run, find}
use Rattle.relayout.specs.Comments.{in_line}
use Rattle.relayout.proofs.KeptLemmas.{line_ends}
use Rattle.relayout.proofs.forms.is_in_line.Goals as goal

pub returns : goal.returns
returns c =
    c.is_empty.ensures
    ∙ line_ends in_line (chars c.args.text.now) c.skip_to_either.ensures.front c.skip_to_either.result.rest.now
    (IsUtf8-had _ c.skip_to_either.result.text)
    (ap (λ t. find (Run in_line) (chars t)) (sym c.new.ensures.rest) ∙ c.skip_to_either.ensures.found)
