use Rattle.rust_check.specs.Shown.{visible_char}
use Rattle.messages.proofs.EachLemmas.{each_end, each_one}
use Rattle.rust_check.proofs.shown.push_shown.Goals as goal

pub loop-c-preserved : goal.loop-c-preserved
loop-c-preserved c =
    each_one visible_char _ _ _ _ _ _ c.in-Some.c c.loop-c.invariant c.in-Some.ensures.steps.0
    c.in_ok-push_character.ensures

pub returns : goal.returns
returns c = each_end visible_char _ _ _ _ c.loop-c.invariant (rw c.in-None.is at c.next.ensures.steps).0.0
