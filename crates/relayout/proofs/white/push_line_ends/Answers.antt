use Rattle.std.proofs.Common.{◌≡◌, ◌||◌, ◌==◌, ◌∙◌, sym, ap}
use Rattle.relayout.proofs.WhiteLemmas.{ends_more, ends_all}
use Rattle.relayout.proofs.white.push_line_ends.Goals as goal
use Rattle.relayout.proofs.white.push_line_ends.Goals.{then-ended, else-ended}

pub loop-c-preserved : goal.loop-c-preserved
loop-c-preserved c =
    let now : c.if-ended.ended ≡ (c.loop-c.ended || (c.in-Some.c == 10)) = elim c.if-ended.branch [
      | then-ended w ↦
          w.ended-is ∙ (w.if-ended.true ∙ sym (ap (λ b. b || (c.in-Some.c == 10)) w.if-ended.true))
      | else-ended w ↦ w.ended-is ∙ sym (ap (λ b. b || (c.in-Some.c == 10)) w.if-ended.false)
    ] in
    ends_more _ _ _ _ _ _ c.loop-c.ended _ c.loop-c.returned c.in-Some.c c.loop-c.invariant c.in-Some.ensures.steps.0
    c.in_ok-push_line_end.ensures now

pub returns : goal.returns
returns c = ends_all _ _ _ _ _ _ c.loop-c.invariant (rw c.in-None.is at c.next.ensures.steps).0.0
