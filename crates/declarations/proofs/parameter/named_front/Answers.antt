use Rattle.std.proofs.Common.{◌∙◌, refl, sym}
use Rattle.declarations.specs.rules.Parameters.{named_parameter}
use Rattle.declarations.proofs.ParameterLemmas.{lift_and, lift_mut, named_pattern, named_self, named_self_part}
use Rattle.declarations.proofs.ReaderLemmas.{heads_none, lacks}
use Rattle.declarations.proofs.parameter.named_front.Goals as goal

pub returns-then-is : goal.returns-then-is
returns-then-is c =
    let is = sym c.is.ensures ∙ c.if-is.true in (
      named_self c.args.trees.now c.in-Some.rest.now c.in-Some.class c.in-Some.ensures is,
      named_self_part c.args.trees.now c.in-Some.rest.now c.in-Some.class c.in-Some.ensures is,
    )

pub returns-then-is-2 : goal.returns-then-is-2
returns-then-is-2 c =
    lift_mut c.args.trees.now c.in-Some.rest.now c.in-Some.class c.after_mut.result c.in-Some.ensures
    (sym c.is-in-Some.ensures ∙ c.if-is-2.true) c.after_mut.ensures

pub returns-then-is-3 : goal.returns-then-is-3
returns-then-is-3 c =
    lift_and c.args.trees.now c.in-Some.rest.now c.in-Some.class c.after_and.result c.in-Some.ensures
    (sym c.is-in-Some-2.ensures ∙ c.if-is-3.true) c.after_and.ensures

pub returns-else-is-3 : goal.returns-else-is-3
returns-else-is-3 c =
    named_pattern c.args.trees.now c.in-Some.rest.now c.in-Some.class c.in-Some.ensures
    (sym c.is.ensures ∙ c.if-is.false) (sym c.is-in-Some.ensures ∙ c.if-is-2.false) c.plain_shape.result
    (sym c.is-in-Some-2.ensures ∙ c.if-is-3.false) c.plain_shape.ensures

pub returns-in-None : goal.returns-in-None
returns-in-None c =
    lacks named_parameter c.args.trees.now (heads_none named_parameter c.args.trees.now c.in-None.ensures) refl
