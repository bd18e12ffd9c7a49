use Rattle.std.proofs.Common.{◌≡◌, ◌==◌, ◌∙◌, ap, false}
use Rattle.declarations.proofs.ParamLemmas.{no_end}
use Rattle.declarations.proofs.param_parts.past_end.Goals as goal

pub returns-in-None : goal.returns-in-None
returns-in-None c =
    λ rest ends. no_end c.args.trees.now rest c.in-None.ensures.none
    (λ none. let no : false ≡ (0 == 0) = c.if-is_empty.ensures ∙ ap (λ n. n == 0) none in cc) ends
