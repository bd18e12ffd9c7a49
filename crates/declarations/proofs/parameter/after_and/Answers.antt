use Rattle.std.proofs.Common.{◌∙◌, refl, sym}
use Rattle.declarations.specs.rules.Parameters.{after_and}
use Rattle.declarations.proofs.ParameterLemmas.{and_pattern, and_self, and_self_part, lifetime_leads, lifetime_part}
use Rattle.declarations.proofs.ParameterLemmas.{lifetime_sticks, lift_and_mut}
use Rattle.declarations.proofs.ReaderLemmas.{heads_none, lacks}
use Rattle.declarations.proofs.parameter.after_and.Goals as goal

pub returns-in-Err : goal.returns-in-Err
returns-in-Err c =
    lifetime_sticks c.args.trees.now c.in-Some.rest.now c.in-Err.left.now c.in-Some.class c.in-Some.ensures
    (sym c.is.ensures ∙ c.if-is.true) c.in-Err.ensures

pub returns-in-Ok : goal.returns-in-Ok
returns-in-Ok c = (
  lifetime_leads c.args.trees.now c.in-Some.rest.now c.in-Ok.after.now c.in-Some.class c.in-Some.ensures (sym
      c.is.ensures ∙ c.if-is.true) c.in-Ok.ensures,
  lifetime_part c.args.trees.now c.in-Some.rest.now c.in-Ok.after.now
      c.in-Some.class c.in-Some.ensures (sym c.is.ensures ∙ c.if-is.true) c.in-Ok.ensures,
)

pub returns-then-is-2 : goal.returns-then-is-2
returns-then-is-2 c =
    lift_and_mut c.args.trees.now c.in-Some.rest.now c.in-Some.class c.after_and_mut.result c.in-Some.ensures (sym
    c.is-in-Some.ensures ∙ c.if-is-2.true) c.after_and_mut.ensures

pub returns-then-is-3 : goal.returns-then-is-3
returns-then-is-3 c = (
  and_self c.args.trees.now c.in-Some.rest.now c.in-Some.class c.in-Some.ensures (sym c.is-in-Some-2.ensures ∙
      c.if-is-3.true),
  and_self_part c.args.trees.now c.in-Some.rest.now c.in-Some.class c.in-Some.ensures (sym
      c.is-in-Some-2.ensures ∙ c.if-is-3.true),
)

pub returns-else-is-3 : goal.returns-else-is-3
returns-else-is-3 c =
    and_pattern c.args.trees.now c.in-Some.rest.now c.in-Some.class c.in-Some.ensures (sym c.is-in-Some-2.ensures ∙
    c.if-is-3.false) (sym c.is-in-Some.ensures ∙ c.if-is-2.false) c.pattern_shape.result (sym c.is.ensures ∙
    c.if-is.false) c.pattern_shape.ensures

pub returns-in-None : goal.returns-in-None
returns-in-None c = lacks after_and c.args.trees.now (heads_none after_and c.args.trees.now c.in-None.ensures) refl
