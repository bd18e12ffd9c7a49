use Rattle.std.proofs.Common.{refl}
use Rattle.outline.proofs.LineLemmas.{in_line_end, in_line_one, in_line_start}
use Rattle.outline.proofs.names.one_line.Goals as goal

pub loop-c-init : goal.loop-c-init
loop-c-init c =
    rw (c.into_iter-c-iterator.ensures.into_iter_gives, c.chars-c-items.ensures.rest)
    (in_line_start c.args.text.now _ c.utf8.text c.new-out.ensures.bytes)

pub loop-c-preserved : goal.loop-c-preserved
loop-c-preserved c =
    in_line_one _ _ _ _ _ _ _ c.in-Some.c c.loop-c.invariant c.in-Some.ensures.steps.0 c.in_ok-push_in_line.ensures
    refl

pub returns : goal.returns
returns c = in_line_end _ _ _ _ c.loop-c.invariant (rw c.in-None.is at c.next.ensures.steps).0.0
