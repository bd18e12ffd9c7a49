use Rattle.std.proofs.Common.{◌≡◌, ◌∙◌, ◌==◌, Bool, List, true, false, ap, eq-eqb, length, ne_eqb, rules}
use Rattle.rust_check.proofs.TurnsLemmas.{closes_items, turned_end, turned_one, turned_stop, turned_wrong}
use Rattle.rust_check.proofs.turns.is_balanced.Goals as goal

pub loop-c-preserved : goal.loop-c-preserved
loop-c-preserved c =
    let is : c.in_ok-take.field-0 ≡ true = search (rules, c.if-not-branch.false) in
    turned_one _ _ _ c.loop-c.opened.items c.take.new.opened.items _ c.in-Some.c c.loop-c.invariant
    c.in-Some.ensures.steps.0 (ne_eqb _ _ c.if-c-eq10.false)
    c.in_ok-take.ensures is

pub returns-then-c-eq10 : goal.returns-then-c-eq10
returns-then-c-eq10 c =
    c.is_empty.ensures
    ∙ (ap (λ (l : List Bool). length l == 0) c.as_slice.ensures.value
    ∙ (closes_items c.loop-c.opened.items
    ∙ turned_stop _ _ _ _ c.in-Some.c c.loop-c.invariant c.in-Some.ensures.steps.0 (eq-eqb _ _ c.if-c-eq10.true)))

pub returns-then-not-branch : goal.returns-then-not-branch
returns-then-not-branch c =
    let is : c.in_ok-take.field-0 ≡ false = search (rules, c.if-not-branch.true) in
    turned_wrong _ _ _ c.loop-c.opened.items c.take.new.opened.items _ c.in-Some.c c.loop-c.invariant
    c.in-Some.ensures.steps.0 (ne_eqb _ _ c.if-c-eq10.false)
    c.in_ok-take.ensures is

pub returns : goal.returns
returns c =
    c.is_empty-2.ensures
    ∙ (ap (λ (l : List Bool). length l == 0) c.as_slice-2.ensures.value
    ∙ (closes_items c.loop-c.opened.items
    ∙ turned_end _ _ _ c.loop-c.invariant (rw c.in_default.is at c.next.ensures.steps).0.0))
