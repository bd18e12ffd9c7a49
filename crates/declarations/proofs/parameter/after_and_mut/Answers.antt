use Rattle.std.proofs.Common.{◌∙◌, refl, sym}
use Rattle.declarations.specs.rules.Parameters.{after_and_mut}
use Rattle.declarations.proofs.ParameterLemmas.{and_mut_pattern, and_mut_self, self_part}
use Rattle.declarations.proofs.ReaderLemmas.{heads_none, lacks}
use Rattle.declarations.proofs.parameter.after_and_mut.Goals as goal

pub returns-then-is : goal.returns-then-is
returns-then-is c =
    let is = sym c.is.ensures ∙ c.if-is.true in (
      and_mut_self c.args.trees.now c.in-Some.rest.now c.in-Some.class c.in-Some.ensures is,
      self_part c.args.trees.now c.in-Some.rest.now c.in-Some.class c.in-Some.ensures is,
    )

pub returns-else-is : goal.returns-else-is
returns-else-is c =
    and_mut_pattern c.args.trees.now c.in-Some.rest.now c.in-Some.class c.in-Some.ensures
    (sym c.is.ensures ∙ c.if-is.false) c.pattern_shape.result c.pattern_shape.ensures

pub returns-in-None : goal.returns-in-None
returns-in-None c =
    lacks after_and_mut c.args.trees.now (heads_none after_and_mut c.args.trees.now c.in-None.ensures) refl
