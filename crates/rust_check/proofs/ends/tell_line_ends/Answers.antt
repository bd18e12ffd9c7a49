use Rattle.std.proofs.Common.{refl}
use Rattle.rust_check.proofs.ReportLemmas.{along_end, along_one, along_start, within_front}
use Rattle.rust_check.proofs.ends.tell_line_ends.Goals as goal

pub loop-c-init : goal.loop-c-init
loop-c-init g c =
    along_start _ _ c.args.form c.args.path.now c.args.text.now _ _ _ _ _ _ _ c.chars-rest.ensures.rest refl
    c.front-place.ensures c.utf8.text within_front

pub loop-c-preserved : goal.loop-c-preserved
loop-c-preserved g c =
    along_one _ _ c.args.form c.args.path.now c.args.text.now _ _ _ _ _ _ _ _ _ _ _ _ _ _ c.in-Some.c c.loop-c.invariant
    c.in-Some.ensures.steps.0 c.after-ends.ensures c.after-place.ensures
    (rw c.as_str.ensures at c.in_ok-tell_end.ensures)

pub returns : goal.returns
returns g c =
    (along_end _ _ c.args.form c.args.path.now c.args.text.now _ _ _ _ _ _ _ _ _ c.loop-c.invariant
    (rw c.in_default.is at c.next.ensures.steps).0.0).0
