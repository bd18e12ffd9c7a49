use Rattle.declarations.proofs.ParamRuleLemmas.{bounds_are_read, bounds_fail}
use Rattle.declarations.proofs.param_parts.plain_bounds.Goals as goal

pub returns-in-Ok-clause-parts : goal.returns-in-Ok-clause-parts
returns-in-Ok-clause-parts c =
    bounds_are_read c.args.trees.now c.part.result.now c.in-Ok.rest.now c.in-Ok.ensures c.part.ensures

pub returns-in-Ok-clause-rule : goal.returns-in-Ok-clause-rule
returns-in-Ok-clause-rule c = c.in-Ok.ensures

pub returns-in-Err-clause-parts : goal.returns-in-Err-clause-parts
returns-in-Err-clause-parts c = bounds_fail c.args.trees.now c.in-Err.left.now c.in-Err.ensures

pub returns-in-Err-clause-rule : goal.returns-in-Err-clause-rule
returns-in-Err-clause-rule c = c.in-Err.ensures

pub part-requires : goal.part-requires
part-requires c = c.in-Ok.ensures.remains
