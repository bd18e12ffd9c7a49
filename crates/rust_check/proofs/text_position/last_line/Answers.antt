use Rattle.std.proofs.Common.{eq-eqb, ne_eqb, rules}
use Rattle.rust_check.proofs.PlaceLemmas.{at_end, at_feed, at_other, at_start, few_lines}
use Rattle.rust_check.proofs.text_position.last_line.Goals as goal

pub loop-c-init : goal.loop-c-init
loop-c-init c = record { text = c.utf8.text; at = rw c.chars-rest.ensures.rest (at_start c.args.text.now c.utf8.text) }

pub loop-c-preserved-then-c-eq10 : goal.loop-c-preserved-then-c-eq10
loop-c-preserved-then-c-eq10 c = record {
  text = c.as_str-front.utf8;
  at = rw c.as_str-front.ensures (at_feed _ _ _ _ _ c.in-Some.c c.loop-c.invariant.at c.in-Some.ensures.steps.0
      (eq-eqb _ _ c.if-c-eq10.true));
}

pub loop-c-preserved : goal.loop-c-preserved
loop-c-preserved c = record {
  text = c.loop-c.invariant.text;
  at = at_other _ _ _ _ _ c.in-Some.c c.loop-c.invariant.at c.in-Some.ensures.steps.0
      (ne_eqb _ _ c.if-c-eq10.false);
}

pub overflow_add-number : goal.overflow_add-number
overflow_add-number c =
    let few = few_lines _ _ _ _ _ c.in-Some.c c.loop-c.invariant.at c.utf8.text c.in-Some.ensures.steps.0 in
    search rules

pub returns-clause-number : goal.returns-clause-number
returns-clause-number c =
    (at_end _ _ _ _ c.loop-c.invariant.at (rw c.in_default.is at c.next.ensures.steps).0.0).0

pub returns-clause-text : goal.returns-clause-text
returns-clause-text c =
    (at_end _ _ _ _ c.loop-c.invariant.at (rw c.in_default.is at c.next.ensures.steps).0.0).1
