use Rattle.std.proofs.Common.{◌∙◌, refl, sym}
use Rattle.declarations.specs.rules.Parameters as rule
use Rattle.declarations.proofs.ParameterLemmas.{mut_pattern, mut_self, self_part}
use Rattle.declarations.proofs.ReaderLemmas.{heads_none, lacks}
use Rattle.declarations.proofs.parameter.after_mut.Goals as goal

pub returns-then-is : goal.returns-then-is
returns-then-is c = (
  mut_self c.args.trees.now c.in-Some.rest.now c.in-Some.class c.in-Some.ensures (sym c.is.ensures ∙ c.if-is.true),
  self_part c.args.trees.now c.in-Some.rest.now c.in-Some.class c.in-Some.ensures (sym c.is.ensures ∙ c.if-is.true),
)

pub returns-else-is : goal.returns-else-is
returns-else-is c =
    mut_pattern c.args.trees.now c.in-Some.rest.now c.in-Some.class c.in-Some.ensures
    (sym c.is.ensures ∙ c.if-is.false) c.pattern_shape.result c.pattern_shape.ensures

pub returns-in-None : goal.returns-in-None
returns-in-None c =
    lacks rule.after_mut c.args.trees.now (heads_none rule.after_mut c.args.trees.now c.in-None.ensures) refl
