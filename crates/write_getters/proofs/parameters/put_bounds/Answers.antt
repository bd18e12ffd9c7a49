use Rattle.write_getters.proofs.CopiesLemmas.{no_trees, some_trees}
use Rattle.write_getters.proofs.ParametersLemmas.{no_bounds, some_bounds}
use Rattle.write_getters.proofs.parameters.put_bounds.Goals as goal

pub returns-then-is_empty : goal.returns-then-is_empty
returns-then-is_empty c = no_bounds _ _ (no_trees _ c.if-is_empty.ensures)

pub returns : goal.returns
returns c =
    some_bounds c.args.stream.now _ _ c.args.bounds.now c.new.result c.put_copies.result
    (some_trees _ c.if-is_empty.ensures) c.new.ensures c.in_ok-put.ensures c.put_copies.ensures
