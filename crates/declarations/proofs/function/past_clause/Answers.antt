use Rattle.declarations.proofs.FunctionPartLemmas.{clause_ends, clause_reads, clause_stays}
use Rattle.declarations.proofs.function.past_clause.Goals as goal

pub returns-then-is : goal.returns-then-is
returns-then-is c =
    clause_reads c.args.trees.now c.in-Some.rest.now c.in-Some.class c.is.result c.past_list.result c.in-Some.ensures
    c.is.ensures c.if-is.true c.past_list.ensures

pub returns-else-is : goal.returns-else-is
returns-else-is c =
    clause_stays c.args.trees.now c.in-Some.rest.now c.in-Some.class c.is.result c.in-Some.ensures c.is.ensures
    c.if-is.false

pub returns-in-None : goal.returns-in-None
returns-in-None c = clause_ends c.args.trees.now c.in-None.ensures
