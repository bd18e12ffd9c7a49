use Rattle.quoting.proofs.JoinLemmas.{all_closed}
use Rattle.quoting.proofs.join.close_all.Goals as goal

pub returns : goal.returns
returns c =
    all_closed c.finish.result _ _ _ _ _ c.in_ok-here.ensures c.keep_rest.ensures.kept
    c.keep_rest.ensures.all c.finish.ensures
