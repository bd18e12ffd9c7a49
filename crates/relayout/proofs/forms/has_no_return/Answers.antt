use Rattle.std.proofs.Common.{◌==◌, Bool, not, sym, ap, ◌∙◌, ℕ}
use Rattle.std.specs.Str.{chars}
use Rattle.std.proofs.lemmas.Str.{IsUtf8-had}
use Rattle.lexical.specs.Rule.{Run, find}
use Rattle.relayout.proofs.KeptLemmas.{line_ends}
use Rattle.relayout.proofs.forms.has_no_return.Goals as goal

pub returns : goal.returns
returns c =
    let passes : ℕ → Bool = λ d. not (d == 13) in
    c.is_empty.ensures
    ∙ line_ends passes (chars c.args.text.now) c.skip_to.ensures.front c.skip_to.result.rest.now
    (IsUtf8-had _ c.skip_to.result.text)
    (ap (λ t. find (Run passes) (chars t)) (sym c.new.ensures.rest) ∙ c.skip_to.ensures.found)
