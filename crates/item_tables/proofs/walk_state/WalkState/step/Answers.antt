use Rattle.std.proofs.Common.{◌∙◌, sym, refl}
use Rattle.item_tables.proofs.walk_state.WalkState.step.Goals as goal

pub returns-in-Some-clause-value : goal.returns-in-Some-clause-value
returns-in-Some-clause-value c =
    rw (c.in-Range.is, sym c.range_step.ensures.value ∙ c.in-Some.is) refl

pub returns-in-Some-clause-depth : goal.returns-in-Some-clause-depth
returns-in-Some-clause-depth c = c.in-Some.ensures.depth

pub returns-then-may_end-clause-value : goal.returns-then-may_end-clause-value
returns-then-may_end-clause-value c =
    c.for_step.ensures.value
    ∙ rw (
      c.in-Range.is,
      sym c.range_step.ensures.value ∙ c.in_default.is,
      c.if-self-eq0.true,
      sym c.may_end.ensures ∙ c.if-may_end.true,
    ) refl

pub returns-in-At-clause-value : goal.returns-in-At-clause-value
returns-in-At-clause-value c = rw (c.in-At.is, sym c.spot_step.ensures) c.shift_state.ensures.value

pub returns-in-At-clause-depth : goal.returns-in-At-clause-depth
returns-in-At-clause-depth c = c.shift_state.ensures.depth
