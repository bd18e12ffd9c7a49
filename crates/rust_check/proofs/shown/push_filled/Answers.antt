use Rattle.std.proofs.Common.{◌∙◌, ◌++◌, ap, string_bytes}
use Rattle.rust_check.specs.Shown.{columns, times}
use Rattle.messages.proofs.EachLemmas.{each_end, each_one}
use Rattle.rust_check.proofs.shown.push_filled.Goals as goal

pub loop-c-preserved : goal.loop-c-preserved
loop-c-preserved c =
    let fill = c.args.fill.now in
    each_one (λ c. times (columns c) fill) _ _ _ _ _ _ c.in-Some.c c.loop-c.invariant c.in-Some.ensures.steps.0
    (c.in_ok-push_times.ensures ∙ ap (λ n. string_bytes c.loop-c.out ++ times n fill) c.columns.ensures)

pub returns : goal.returns
returns c =
    each_end (λ c'. times (columns c') c.args.fill.now) _ _ _ _ c.loop-c.invariant
    (rw c.in-None.is at c.next.ensures.steps).0.0
