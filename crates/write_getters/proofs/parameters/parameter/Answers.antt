use Rattle.declarations.specs.Param.{param_trees}
use Rattle.write_getters.proofs.ParametersLemmas.{parameter_built}
use Rattle.write_getters.proofs.parameters.parameter.Goals as goal

pub returns : goal.returns
returns c =
    parameter_built (param_trees c.args.param.now) c.in_ok-stream.stream c.put_keyword.new.stream
    c.put_copies.new.stream c.put_bounds.new.stream c.in_ok-stream.ensures c.in_ok-put_keyword.ensures
    c.in_ok-put_copies.ensures c.in_ok-put_bounds.ensures
