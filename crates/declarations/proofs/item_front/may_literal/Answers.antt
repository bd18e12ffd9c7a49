use Rattle.declarations.proofs.ItemFrontLemmas.{literal_qualifies, no_qualifiers}
use Rattle.declarations.proofs.item_front.may_literal.Goals as goal

pub returns-then-is-clause-qualifiers : goal.returns-then-is-clause-qualifiers
returns-then-is-clause-qualifiers c =
    literal_qualifies c.args.trees.now c.in-Some.rest.now c.in-Some.class c.is.result c.in-Some.ensures c.is.ensures
    c.if-is.true

pub returns-else-is-clause-qualifiers : goal.returns-else-is-clause-qualifiers
returns-else-is-clause-qualifiers c = no_qualifiers c.args.trees.now

pub returns-in-None-clause-qualifiers : goal.returns-in-None-clause-qualifiers
returns-in-None-clause-qualifiers c = no_qualifiers c.args.trees.now
