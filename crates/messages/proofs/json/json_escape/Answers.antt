use Rattle.std.proofs.Common.{◌∙◌, ◌++◌, ap}
use Rattle.messages.specs.Json.{escape, json_escape}
use Rattle.messages.proofs.EachLemmas.{each_end, each_one}
use Rattle.messages.proofs.json.json_escape.Goals as goal

pub loop-c-preserved : goal.loop-c-preserved
loop-c-preserved c =
    each_one escape _ _ _ _ _ _ c.in-Some.c c.loop-c.invariant c.in-Some.ensures.steps.0
    c.in_ok-push_escaped.ensures

pub returns : goal.returns
returns c =
    each_end escape _ _ _ _ c.loop-c.invariant (rw c.in-None.is at c.next.ensures.steps).0.0
    ∙ ap (λ l. l ++ json_escape c.args.text.now) c.new-out.ensures.bytes
