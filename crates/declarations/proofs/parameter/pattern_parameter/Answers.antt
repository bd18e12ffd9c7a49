use Rattle.std.proofs.Common.{◌∙◌, sym}
use Rattle.declarations.proofs.ParameterLemmas.{typed_none, typed_other, typed_reads}
use Rattle.declarations.proofs.parameter.pattern_parameter.Goals as goal

pub returns-then-is : goal.returns-then-is
returns-then-is c =
    typed_reads c.args.trees.now c.in-Some.from_end.now c.in-Some.class c.typed_end.result c.in-Some.ensures
    (sym c.is.ensures ∙ c.if-is.true) c.typed_end.ensures

pub returns-else-is : goal.returns-else-is
returns-else-is c =
    typed_other c.args.trees.now c.in-Some.from_end.now c.in-Some.class c.in-Some.ensures
    (sym c.is.ensures ∙ c.if-is.false)

pub returns-in-None : goal.returns-in-None
returns-in-None c = typed_none c.args.trees.now c.in-None.ensures
