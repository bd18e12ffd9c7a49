use Rattle.item_headers.proofs.FaultLemmas.{no_predicates_after, no_predicates_here, fault_statement}
use Rattle.item_headers.proofs.HeaderLemmas.{none_left, predicates_done}
use Rattle.item_headers.proofs.ListLemmas.{no_predicates, predicate_more}
use Rattle.item_headers.proofs.clauses.push_where.Goals as goal

pub loop-left-init : goal.loop-left-init
loop-left-init c = no_predicates _ _

pub loop-left-preserved : goal.loop-left-preserved
loop-left-preserved c =
    predicate_more _ _ _ _ _ _ _ _ _ c.loop-left.invariant c.in_ok-predicate.ensures.ok c.in_ok-push_lead.ensures
    c.in_ok-push_predicate.ensures

pub returns-clause-ok : goal.returns-clause-ok
returns-clause-ok c = predicates_done c.args.where_clause.now _ _ _ _ _ c.in_ok-left.ensures.ok c.loop-left.invariant
    (none_left c.loop-left.left.now (cc))

pub returns-in_err-left-clause-fault : goal.returns-in_err-left-clause-fault
returns-in_err-left-clause-fault c =
    fault_statement c.from_residual.result _ (no_predicates_after c.args.where_clause.now c.in_err-left.ensures.fault)

pub returns-in_err-predicate-clause-fault : goal.returns-in_err-predicate-clause-fault
returns-in_err-predicate-clause-fault c =
    let so_far = c.loop-left.invariant in
    fault_statement c.from_residual-in_err-predicate.result _
    (no_predicates_here c.args.where_clause.now c.in_ok-left.left.now
    c.loop-left.left.now so_far.done c.in_ok-left.ensures.ok so_far.read (cc) c.in_err-predicate.ensures.fault)
