use Rattle.std.proofs.Common.{refl}
use Rattle.rust_check.proofs.ReportLemmas.{along_end, along_one, along_start}
use Rattle.rust_check.proofs.report.tell_piece.Goals as goal

pub loop-c-init : goal.loop-c-init
loop-c-init g c =
    along_start _ _ c.args.form c.args.path.now c.args.text.now _ _ _ _ _ _ _ c.chars-rest.ensures.rest
    c.in_ok-balanced.ensures refl c.utf8.text c.requires.within

pub loop-c-preserved : goal.loop-c-preserved
loop-c-preserved g c =
    along_one _ _ c.args.form c.args.path.now c.args.text.now _ _ _ _ _ _ _ _ _ _ _ _ _ _ c.in-Some.c c.loop-c.invariant
    c.in-Some.ensures.steps.0 (rw c.as_str.ensures at c.in_ok-balanced-2.ensures) c.after-at.ensures
    c.in_ok-tell_character.ensures

pub returns : goal.returns
returns g c =
    let all = along_end _ _ c.args.form c.args.path.now c.args.text.now _ _ _ _ _ _ _ _ _ c.loop-c.invariant
    (rw c.in_default.is at c.next.ensures.steps).0.0 in
    record { report = all.0; place = all.1.0; within = c.loop-c.invariant.within; begin = all.1.1 }
