use Rattle.std.specs.Str.{chars}
use Rattle.std.proofs.Common.{◌∙◌, ap, arith, eq-eqb, ne_eqb, inl, inr, rules}
use Rattle.std.proofs.lemmas.List.{nil_from_length}
use Rattle.std.proofs.lemmas.Str.{chars-nil}
use Rattle.same.proofs.PlaceLemmas.{at_end, at_feed, at_other, at_start, few}
use Rattle.same.proofs.place.place_at.Goals as goal

pub loop-left-init : goal.loop-left-init
loop-left-init c = at_start _ _ _ c.utf8.text c.chars-rest.ensures.rest

pub overflow_add-line : goal.overflow_add-line
overflow_add-line c =
    let small = few _ _ _ _ _ _ _ c.in-Some.c c.loop-left.invariant c.utf8.text c.in-Some.ensures.steps.0 in
    search rules

pub overflow_add-column : goal.overflow_add-column
overflow_add-column c =
    let small = few _ _ _ _ _ _ _ c.in-Some.c c.loop-left.invariant c.utf8.text c.in-Some.ensures.steps.0 in
    search rules

pub loop-left-preserved-then-c-eq10 : goal.loop-left-preserved-then-c-eq10
loop-left-preserved-then-c-eq10 c =
    rw (c.saturating_sub-left.ensures, c.len_utf8.ensures.value)
    (at_feed _ _ _ _ _ _ _ c.in-Some.c c.loop-left.invariant c.in-Some.ensures.steps.0
    (omega (arith, c.loop-left-test.true)) (eq-eqb _ _ c.if-c-eq10.true))

pub loop-left-preserved : goal.loop-left-preserved
loop-left-preserved c =
    rw (c.saturating_sub-left.ensures, c.len_utf8.ensures.value)
    (at_other _ _ _ _ _ _ _ c.in-Some.c c.loop-left.invariant c.in-Some.ensures.steps.0
    (omega (arith, c.loop-left-test.true)) (ne_eqb _ _ c.if-c-eq10.false))

pub returns-after-loop-left : goal.returns-after-loop-left
returns-after-loop-left c = at_end _ _ _ _ _ _ c.loop-left.invariant (inl (omega (arith, c.loop-left-test.false)))

pub returns-in_default : goal.returns-in_default
returns-in_default c =
    at_end _ _ _ _ _ _ c.loop-left.invariant
    (inr (ap chars (nil_from_length _ (rw c.in_default.is at c.next.ensures.steps).0.0) ∙ chars-nil))
