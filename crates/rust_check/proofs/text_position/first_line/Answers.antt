use Rattle.std.proofs.Common.{ne_eqb}
use Rattle.rust_check.proofs.PlaceLemmas.{goes_past, within_end, within_one}
use Rattle.rust_check.proofs.text_position.first_line.Goals as goal

pub loop-c-preserved : goal.loop-c-preserved
loop-c-preserved c = record {
  text = c.as_str-left.utf8;
  at = rw c.as_str-left.ensures (within_one _ _ _ _ c.in-Some.c c.loop-c.invariant.at c.in-Some.ensures.steps.0
      (goes_past c.in-Some.c (ne_eqb _ _ c.if-c-eq10.false) (ne_eqb _ _ c.if-c-eq13.false)));
}

pub returns : goal.returns
returns c = within_end _ _ _ c.loop-c.invariant.at (rw c.in_default.is at c.next.ensures.steps).0.0
