use Rattle.std.proofs.Common.{ap, ◌∙◌, codes, false}
use Rattle.write_getters.proofs.ParametersLemmas.{const_chars, keyword_put, no_keyword}
use Rattle.write_getters.proofs.parameters.put_keyword.Goals as goal

pub returns-in-Lifetime : goal.returns-in-Lifetime
returns-in-Lifetime c = no_keyword _ c.args.kind c.in-Lifetime.is

pub returns-in_ok-put-in-Const : goal.returns-in_ok-put-in-Const
returns-in_ok-put-in-Const c =
    keyword_put _ _ c.args.kind c.in_ok-word-in-Const.word c.in-Const.is
    (c.in_ok-word-in-Const.ensures.ok
    ∙ ap (λ n. record { name = n; raw = false; span = c.call_site.result }) const_chars
    ∙ ap (λ s. record { name = codes "const"; raw = false; span = s }) c.call_site.ensures.value)
    c.in_ok-put-in-Const.ensures
