use Rattle.quoting.proofs.JoinLemmas.{begin_closing, close_kept, open_kept}
use Rattle.quoting.proofs.join.closed_to.Goals as goal

pub loop-around-init : goal.loop-around-init
loop-around-init c = begin_closing _ _ _ c.requires

pub close-requires-clause-open : goal.close-requires-clause-open
close-requires-clause-open c =
    open_kept _ _ _ _ _ _ c.keep_rest.ensures.kept c.in-Some.ensures.0 c.loop-around.invariant.way

pub loop-around-preserved : goal.loop-around-preserved
loop-around-preserved c =
    close_kept _ _ _ _ _ _ _ _ _ c.keep_rest.ensures.all c.keep_rest.ensures.kept c.in-Some.ensures.0
    c.in-Some.ensures.1 c.in_ok-close.ensures c.loop-around.invariant
