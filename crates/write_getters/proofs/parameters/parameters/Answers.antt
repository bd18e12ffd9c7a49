use Rattle.declarations.specs.Param.{param_trees}
use Rattle.write_getters.proofs.CopiesLemmas.{no_trees}
use Rattle.write_getters.proofs.ParametersLemmas.{collected_all, collected_more}
use Rattle.write_getters.proofs.parameters.parameters.Goals as goal

pub loop-left-preserved : goal.loop-left-preserved
loop-left-preserved c =
    collected_more c.in_ok-left.left.now c.loop-left.left.now c.in_ok-param.rest.now c.loop-left.declared.items
    c.loop-left.arguments.items c.add.new.list.items c.add-in-loop-left.new.list.items
    (param_trees c.in_ok-param.param) c.in_ok-parameter.field-0 c.in_ok-copy_trees.field-0 c.loop-left.invariant
    c.in_ok-param.ensures.ok c.in_ok-parameter.ensures c.in_ok-copy_trees.ensures c.in_ok-add.ensures
    c.in_ok-add-2.ensures

pub returns : goal.returns
returns c =
    collected_all c.args.generics.now c.in_ok-left.left.now c.loop-left.left.now _ _ c.in_ok-left.ensures.ok
    c.loop-left.invariant (no_trees _ c.loop-left-test.ensures)
