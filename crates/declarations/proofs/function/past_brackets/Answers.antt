use Rattle.declarations.proofs.FunctionPartLemmas.{brackets_end, brackets_read, brackets_stay}
use Rattle.declarations.proofs.function.past_brackets.Goals as goal

pub returns-then-opens : goal.returns-then-opens
returns-then-opens c =
    brackets_read c.args.trees.now c.in-Some.rest.now c.in-Some.class c.opens.result c.past_parameters.result
    c.in-Some.ensures c.opens.ensures c.if-opens.true c.past_parameters.ensures

pub returns-else-opens : goal.returns-else-opens
returns-else-opens c =
    brackets_stay c.args.trees.now c.in-Some.rest.now c.in-Some.class c.opens.result c.in-Some.ensures c.opens.ensures
    c.if-opens.false

pub returns-in-None : goal.returns-in-None
returns-in-None c = brackets_end c.args.trees.now c.in-None.ensures
