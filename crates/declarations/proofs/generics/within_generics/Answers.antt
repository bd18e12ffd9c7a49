use Rattle.std.proofs.Common.{◌∙◌, ap, drop, refl, subst, sym}
use Rattle.std.proofs.lemmas.Bool.{both_ways}
use Rattle.std.proofs.lemmas.List.{nil_from_length}
use Rattle.declarations.specs.Fault.{extent_at, first_extent}
use Rattle.declarations.specs.Param.{IsWithin, is_opened}
use Rattle.declarations.proofs.generics.within_generics.Goals as goal

pub returns-in_default-clause-ok : goal.returns-in_default-clause-ok
returns-in_default-clause-ok c = rw (nil_from_length c.args.generics.now c.in_default.ensures.cases) refl

pub returns-then-not-is_mark_of-clause-fault : goal.returns-then-not-is_mark_of-clause-fault
returns-then-not-is_mark_of-clause-fault c = λ inside within.
    let at = subst (λ trees. IsWithin trees inside) c.in-Some.ensures.cases.0 within in
    both_ways _ (sym c.if-not-is_mark_of.ensures) at.2

pub returns-then-not-is_mark_of-clause-place : goal.returns-then-not-is_mark_of-clause-place
returns-then-not-is_mark_of-clause-place c = record {
  opening = λ no. record { counted = c.fault_at_sign.ensures.at; expected = c.fault_at_sign.ensures.expected };
  closing = λ yes. absurd (both_ways _ (sym c.if-not-is_mark_of.ensures)
      (sym (ap is_opened c.in-Some.ensures.cases.0) ∙ yes));
}

pub returns-then-not-is_mark_of-clause-span : goal.returns-then-not-is_mark_of-clause-span
returns-then-not-is_mark_of-clause-span c =
    c.fault_at_sign.ensures.span ∙ ap (extent_at c.args.generics.now) (sym c.fault_at_sign.ensures.at)

pub returns-in-Some-split_last-clause-ok : goal.returns-in-Some-split_last-clause-ok
returns-in-Some-split_last-clause-ok c =
    rw c.in-Some.ensures.cases.0 (
      c.in-Some-split_last.close.now,
      c.in-Some-split_last.ensures.cases.0,
      sym c.is_mark_of.ensures ∙ c.if-not-is_mark_of.false,
      sym c.if-is_mark_of.ensures,
    )

pub returns-in_default-split_last-clause-place : goal.returns-in_default-split_last-clause-place
returns-in_default-split_last-clause-place c = record {
  opening = λ no. absurd (both_ways _ (sym (ap is_opened c.in-Some.ensures.cases.0) ∙ no)
      (sym c.is_mark_of.ensures ∙ c.if-not-is_mark_of.false));
  closing = λ yes. record {
    counted = c.fault_at_sign-in_default-split_last.ensures.at;
    expected = c.fault_at_sign-in_default-split_last.ensures.expected;
  };
}

pub returns-in_default-split_last-clause-span : goal.returns-in_default-split_last-clause-span
returns-in_default-split_last-clause-span c =
    c.fault_at_sign-in_default-split_last.ensures.span
    ∙ ap first_extent (c.split_at.ensures.back
    ∙ ap (λ n. drop n c.args.generics.now) (sym c.fault_at_sign-in_default-split_last.ensures.at))
