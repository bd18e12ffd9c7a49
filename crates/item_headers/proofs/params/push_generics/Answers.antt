use Rattle.item_headers.proofs.FaultLemmas.{no_params_here, no_params_within, fault_statement}
use Rattle.item_headers.proofs.HeaderLemmas.{none_left, params_closed, params_none}
use Rattle.item_headers.proofs.ListLemmas.{no_params, param_more}
use Rattle.item_headers.proofs.params.push_generics.Goals as goal

pub loop-left-init : goal.loop-left-init
loop-left-init c = no_params c.args.lead c.args.form _ _

pub loop-left-preserved : goal.loop-left-preserved
loop-left-preserved c =
    param_more c.args.lead c.args.form _ _ _ _ _ _ _ _ _ c.loop-left.invariant c.in_ok-param.ensures.ok
    c.in_ok-push_lead.ensures c.in_ok-push_param.ensures

pub returns-then-any-clause-ok : goal.returns-then-any-clause-ok
returns-then-any-clause-ok c =
    params_closed c.args.lead c.args.form c.args.trees.now _ _ _ _ _ _ c.in_ok-left.ensures.ok c.loop-left.invariant
    (none_left c.loop-left.left.now (cc))
    c.if-any.true c.in_ok-push_mark.ensures

pub returns-clause-ok : goal.returns-clause-ok
returns-clause-ok c =
    params_none c.args.lead c.args.form c.args.trees.now _ _ _ _ _ c.in_ok-left.ensures.ok c.loop-left.invariant
    (none_left c.loop-left.left.now (cc))
    c.if-any.false

pub returns-in_err-left-clause-fault : goal.returns-in_err-left-clause-fault
returns-in_err-left-clause-fault c =
    fault_statement c.from_residual.result _ (no_params_within c.args.trees.now c.in_err-left.ensures.fault)

pub returns-in_err-param-clause-fault : goal.returns-in_err-param-clause-fault
returns-in_err-param-clause-fault c =
    let so_far = c.loop-left.invariant in
    fault_statement c.from_residual-in_err-param.result _ (no_params_here c.args.trees.now c.in_ok-left.left.now
    c.loop-left.left.now so_far.done c.in_ok-left.ensures.ok so_far.read (cc) c.in_err-param.ensures.fault)
