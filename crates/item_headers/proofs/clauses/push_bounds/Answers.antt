use Rattle.item_headers.proofs.FaultLemmas.{no_params_here, no_params_within, fault_statement}
use Rattle.item_headers.proofs.HeaderLemmas.{bounds_done, none_left}
use Rattle.item_headers.proofs.ListLemmas.{bound_more, no_bounds}
use Rattle.item_headers.proofs.clauses.push_bounds.Goals as goal

pub loop-left-init : goal.loop-left-init
loop-left-init c = no_bounds c.args.bound.now _ _ _

pub loop-left-preserved : goal.loop-left-preserved
loop-left-preserved c =
    let one = c.in_ok-more.ensures in
    bound_more c.args.bound.now _ _ _ _ _ _ _ _ _ _ c.loop-left.invariant c.in_ok-param.ensures.ok one.0 one.1

pub returns-clause-ok : goal.returns-clause-ok
returns-clause-ok c = bounds_done c.args.bound.now c.args.any c.args.generics.now _ _ _ _ _ c.in_ok-left.ensures.ok
    c.loop-left.invariant
    (none_left c.loop-left.left.now (cc))

pub returns-in_err-left-clause-fault : goal.returns-in_err-left-clause-fault
returns-in_err-left-clause-fault c =
    fault_statement c.from_residual.result _ (no_params_within c.args.generics.now c.in_err-left.ensures.fault)

pub returns-in_err-param-clause-fault : goal.returns-in_err-param-clause-fault
returns-in_err-param-clause-fault c =
    let so_far = c.loop-left.invariant in
    fault_statement c.from_residual-in_err-param.result _ (no_params_here c.args.generics.now c.in_ok-left.left.now
    c.loop-left.left.now so_far.done c.in_ok-left.ensures.ok so_far.read (cc) c.in_err-param.ensures.fault)
