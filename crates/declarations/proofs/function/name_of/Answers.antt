use Rattle.declarations.proofs.FunctionPartLemmas.{name_at, no_ident, no_name}
use Rattle.declarations.proofs.function.name_of.Goals as goal

pub returns-then-is_name : goal.returns-then-is_name
returns-then-is_name c =
    name_at c.args.trees.now c.in-Ok.rest.now c.in-Ok.name.now c.name_class.result c.is_name.result
    c.in-Ok.ensures.found c.name_class.ensures c.is_name.ensures c.if-is_name.true

pub returns-else-is_name : goal.returns-else-is_name
returns-else-is_name c =
    no_name c.args.trees.now c.in-Ok.rest.now c.in-Ok.name.now c.name_class.result c.is_name.result
    c.in-Ok.ensures.found c.name_class.ensures c.is_name.ensures c.if-is_name.false

pub returns-in-Err : goal.returns-in-Err
returns-in-Err c = no_ident c.args.trees.now c.in-Err.ensures.fault
